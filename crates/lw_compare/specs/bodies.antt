-- What the contracts of private functions cite, and no public clause.
pub mod Joint
pub mod Telling
pub mod Unread
pub mod Walk
