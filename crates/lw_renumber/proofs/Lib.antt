mod ClashLemmas
mod ComingUp
mod CoverLemmas
pub mod LawLemmas
mod LearnedLemmas
pub mod MachineLemmas
mod NumberLemmas
pub mod PlainLemmas
pub mod OccurLemmas
mod SortLemmas
mod SuiteLemmas
pub mod SureLemmas
mod WpLemmas
