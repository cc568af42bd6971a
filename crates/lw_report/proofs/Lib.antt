pub mod ComparisonLemmas
pub mod LearningLemmas
pub mod TextLemmas
