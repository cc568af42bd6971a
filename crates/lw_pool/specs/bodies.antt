-- What the contracts of private functions cite, and no public clause.
pub mod Crew
pub mod Engaged
pub mod PoolBody
pub mod Running
pub mod Working
