pub mod DecideLemmas
pub mod EndLemmas
pub mod ExistenceClash
pub mod ModelLemmas
pub mod OverLemmas
pub mod ReadLemmas
