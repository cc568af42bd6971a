pub mod Children
pub mod Crews
pub mod Cuts
pub mod Keeping
pub mod bodies
