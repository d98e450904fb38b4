-- What is read of a script at a place: read these beside the document's sentences on tally.
pub mod Reading
