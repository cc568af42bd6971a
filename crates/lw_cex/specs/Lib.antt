pub mod Probe
pub mod Plain
pub mod bodies
