-- What the contracts of private functions cite, and no public clause.
pub mod Filling
pub mod Room
pub mod Scanning
pub mod Trie
pub mod Upward
