pub mod Covers
pub mod Missing
pub mod Pairs
pub mod bodies
