pub mod Journal
pub mod Once
pub mod Recorded
