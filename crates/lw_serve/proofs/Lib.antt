pub mod PlayedLemmas
pub mod ReadLemmas
pub mod RunLemmas
pub mod UnreadLemmas
