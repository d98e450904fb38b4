-- the laws that belong to no one function
pub mod Acting
pub mod Arms
