pub mod CheckRun
pub mod Decision
pub mod Ending
pub mod Naming
pub mod Reading
pub mod Telling
pub mod bodies
