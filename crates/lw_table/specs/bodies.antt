-- What the contracts of private functions cite, and no public clause.
pub mod Classes
pub mod Filling
pub mod Growing
pub mod Numbered
pub mod Plain
pub mod Rows
pub mod Steps
pub mod Transitions
