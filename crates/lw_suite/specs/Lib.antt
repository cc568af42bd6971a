pub mod Suite
pub mod bodies
