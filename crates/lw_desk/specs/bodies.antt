-- What the contracts of private functions cite, and no public clause.
pub mod Board
pub mod DeskBody
pub mod Gathering
pub mod Outcome
