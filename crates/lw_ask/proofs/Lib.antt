pub mod AskLemmas
pub mod ChildLemmas
pub mod HintLemmas
pub mod LineLemmas
pub mod RunLemmas
