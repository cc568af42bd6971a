pub mod Calls
pub mod Outcomes
pub mod Playing
pub mod Reading
pub mod ServeRun
pub mod bodies
