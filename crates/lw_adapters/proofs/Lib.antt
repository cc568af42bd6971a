pub mod ByteLemmas
pub mod Crossing
pub mod JournalLemmas
