-- Document 01 as definitions, in its order: read these beside it. Invariant: what holds in the middle of a
-- batch. Moment: words for what happens there. Decide: that soundness is decided. After Run: the letter, and worked cases.
pub mod Head
pub mod Field
pub mod Table
pub mod Heap
pub mod Rows
pub mod Call
pub mod Rules
pub mod Settle
pub mod Step
pub mod Whole
pub mod Invariant
pub mod Moment
pub mod Sound
pub mod Decide
pub mod Refusals
pub mod Endless
pub mod Run
pub mod Demands
pub mod Cases
pub mod Worked
pub mod Against
