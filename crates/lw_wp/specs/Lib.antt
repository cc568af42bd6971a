pub mod GreedySuite
pub mod HSuite
pub mod Identification
pub mod Tables
pub mod WpSuite
pub mod WpTells
pub mod bodies
