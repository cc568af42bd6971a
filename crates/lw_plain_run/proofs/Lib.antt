pub mod ListLemmas
pub mod DifferenceLemmas
pub mod RoundLemmas
pub mod RunLemmas
pub mod OneRunLemmas
