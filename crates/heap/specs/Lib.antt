-- what says no to a batch
pub mod Judging
