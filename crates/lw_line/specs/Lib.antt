pub mod Causes
pub mod LineState
pub mod Serving
pub mod Transcripts
pub mod bodies
