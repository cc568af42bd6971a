mod BlockLemmas
mod ChoiceLemmas
mod PartingLemmas
mod PickedLemmas
mod SettleLemmas
