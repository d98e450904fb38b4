-- the laws that belong to no one function
pub mod Freeing
pub mod Reclaiming
