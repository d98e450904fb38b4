pub mod CellRows
pub mod Walk
pub mod Counts
