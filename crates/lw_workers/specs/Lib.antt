pub mod Asking
pub mod Leaving
pub mod Machines
pub mod Plain
pub mod bodies
