pub mod Prior
pub mod bodies
