pub mod Grown
pub mod Laws
pub mod Plain
pub mod Table
pub mod bodies
