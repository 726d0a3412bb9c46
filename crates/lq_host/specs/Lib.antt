pub mod AcceptedSets
pub mod Predicates
pub mod Calls
pub mod Hosts
