-- What the contracts of private functions cite, and no public clause.
pub mod Walking
