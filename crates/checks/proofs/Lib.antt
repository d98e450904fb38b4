pub mod Signed
pub mod Fields
pub mod Walks
pub mod Steps
pub mod Tally
pub mod Gathered
