mod ListLemmas
mod PredicateLemmas
