-- What the contracts of private functions cite, and no public clause.
pub mod Instances
pub mod Plain
