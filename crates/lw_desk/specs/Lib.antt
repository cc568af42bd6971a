pub mod Desk
pub mod History
pub mod Ending
pub mod Step
pub mod bodies
pub mod lemmas
