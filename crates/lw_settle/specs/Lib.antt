pub mod Settling
pub mod bodies
