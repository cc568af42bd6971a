mod MayLemmas
mod ReadyLemmas
