-- What the contracts of private functions cite, and no public clause.
pub mod Chosen
pub mod Cursors
pub mod HTables
pub mod Tables
