pub mod Comparing
pub mod CompareRun
pub mod Decision
pub mod Outcomes
pub mod Reading
pub mod bodies
