pub mod DecideLemmas
pub mod UseLemmas
