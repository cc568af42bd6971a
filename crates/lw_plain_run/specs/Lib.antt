pub mod Run
pub mod bodies
