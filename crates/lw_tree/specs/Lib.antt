pub mod Blocks
pub mod Grown
pub mod Laws
pub mod Tree
pub mod bodies
