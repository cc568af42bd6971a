pub mod JointLemmas
pub mod LeastLemmas
pub mod NameLemmas
pub mod ReadLemmas
pub mod RunLemmas
pub mod StepLemmas
pub mod UniqueLemmas
pub mod WordLemmas
