pub mod Laws
pub mod Learned
pub mod Learner
pub mod Plain
pub mod Settings
pub mod Stops
pub mod bodies
