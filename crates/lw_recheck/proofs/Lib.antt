pub mod AgainLemmas
pub mod ChildLemmas
pub mod NameLemmas
pub mod OtherLemmas
pub mod ReadLemmas
pub mod RunLemmas
pub mod TellLemmas
