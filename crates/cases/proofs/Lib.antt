-- the laws that belong to no one function
pub mod Signed
