pub mod Lists
pub mod NumberLemmas
pub mod Orders
pub mod Pigeonhole
