mod AccessLemmas
mod AskLemmas
pub mod CellLemmas
mod CloseLemmas
mod FillLemmas
mod FilledLemmas
mod GrownLemmas
mod IndexLemmas
pub mod MachineLemmas
pub mod NewLemmas
mod NumberedLemmas
pub mod OpenLemmas
mod PlainCloseLemmas
pub mod PlainLemmas
mod RefineLemmas
mod RowLemmas
mod StepLemmas
mod SuffixLemmas
mod TransitionLemmas
