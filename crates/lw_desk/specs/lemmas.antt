-- The law on the length of a history, and the lemmas that it rests on: a law of a trait may not rest on `proofs/`.
pub mod Bounds
pub mod ClaimLists
pub mod CoverLemmas
pub mod StepLemmas
