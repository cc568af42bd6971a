pub mod Again
pub mod Arguments
pub mod Child
pub mod Ending
pub mod Outcomes
pub mod Reading
pub mod RecheckRun
pub mod bodies
