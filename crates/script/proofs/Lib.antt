-- Laws that the functions' proofs cite, and what a line that is read may be.
pub mod TextLaws
pub mod Names
pub mod NumberLaws
pub mod Meaning
pub mod LineLaws
