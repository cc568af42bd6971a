mod CompareLemmas
mod DrawnLemmas
mod RunLemmas
