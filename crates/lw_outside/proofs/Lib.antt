mod ChildLemmas
mod FileLemmas
mod LineLemmas
mod NameLemmas
mod RetireLemmas
mod SayLemmas
pub mod SinkLemmas
mod StreamLemmas
