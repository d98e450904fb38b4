-- the definitions that calls' contracts cite
pub mod Doing
