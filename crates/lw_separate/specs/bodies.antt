-- What the contracts of private functions cite, and no public clause.
pub mod Alike
pub mod Classes
pub mod Columns
pub mod Levelled
pub mod Levels
pub mod Renaming
pub mod Search
pub mod Searched
pub mod Walk
