pub mod CellLemmas
pub mod ChainLemmas
pub mod LinkLemmas
pub mod KeepLemmas
pub mod WayLemmas
pub mod CallLemmas
pub mod OwnerLemmas
