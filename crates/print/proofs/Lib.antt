-- the laws that belong to no one function
pub mod Signs
pub mod Appending
pub mod Taking
