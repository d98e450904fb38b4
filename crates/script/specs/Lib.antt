-- A script's text: its numbers, its lines, and what a line says: read these beside the document's sentences on tally.
pub mod Text
pub mod Number
pub mod Line
pub mod Worked
