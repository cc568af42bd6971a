pub mod Drawn
pub mod Walks
pub mod bodies
