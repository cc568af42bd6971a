mod FillLemmas
pub mod PriorLemmas
