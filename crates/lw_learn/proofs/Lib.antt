pub mod FoundLemmas
pub mod ProbeLemmas
pub mod ReadLemmas
pub mod RunLemmas
pub mod ToldLemmas
pub mod WordLemmas
pub mod WriteLemmas
