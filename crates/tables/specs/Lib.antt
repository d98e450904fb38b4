pub mod Row
pub mod Lending
