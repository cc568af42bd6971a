pub mod Ends
pub mod Learnings
pub mod Outcomes
pub mod Reasons
pub mod Refused
pub mod Stops
pub mod Text
pub mod Writing
