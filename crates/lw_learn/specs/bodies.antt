-- What the contracts of private functions cite, and no public clause.
pub mod Probing
pub mod Ready
pub mod Stages
pub mod UnreadState
