mod DeviceLemmas
mod EndingLemmas
mod LoadingLemmas
mod NamingLemmas
mod ScriptRunLemmas
mod StartingLemmas
