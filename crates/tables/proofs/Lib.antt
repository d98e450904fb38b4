pub mod Laws
pub mod Places
pub mod Single
pub mod Pairs
pub mod Steps
