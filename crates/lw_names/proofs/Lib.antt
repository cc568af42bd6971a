pub mod Bringing
pub mod Members
pub mod NameLemmas
pub mod NameNumbers
pub mod NameOrder
pub mod Pairs
