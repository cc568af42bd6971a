pub mod AskingLemmas
mod InstanceLemmas
pub mod LeavingLemmas
pub mod MachineLemmas
pub mod PlainLemmas
mod RunLemmas
pub mod SendLemmas
