-- the laws that belong to no one function
pub mod Signed
pub mod Filling
pub mod Storing
pub mod Logging
pub mod Marking
pub mod Freshness
pub mod Viewing
