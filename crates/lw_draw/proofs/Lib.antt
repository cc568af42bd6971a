pub mod DrawLemmas
pub mod WalkLemmas
