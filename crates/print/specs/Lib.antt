-- the definitions that print's contracts cite
pub mod Printing
pub mod Filling
