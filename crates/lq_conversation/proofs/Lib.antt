mod InputLemmas
mod ScriptLemmas
mod TurnLemmas
mod TypedLemmas
mod WriterLemmas
