-- the laws that belong to no one function
pub mod Words
pub mod Listing
pub mod Chunks
