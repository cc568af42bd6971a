mod SearchLemmas
mod PlainLemmas
