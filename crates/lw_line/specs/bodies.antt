-- What the contracts of private functions cite, and no public clause.
pub mod Exchanges
pub mod Naming
pub mod Pieces
pub mod Playing
pub mod Standing
