-- the definitions that words' contracts cite
pub mod Words
