mod CanonicalLemmas
mod ConformanceLemmas
mod DifferenceLemmas
mod HypothesisLemmas
pub mod LawLemmas
mod LearnerLemmas
mod PlainLemmas
mod RoundLemmas
mod StopLemmas
