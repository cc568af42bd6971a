-- What the contracts of private functions cite, and no public clause.
pub mod Arrivals
pub mod Cuts
pub mod Nodes
pub mod Sprouts
pub mod Steps
pub mod Transitions
