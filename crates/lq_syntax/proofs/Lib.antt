pub mod Fronts
pub mod HostArguments
pub mod Layers
pub mod LevelLemmas
pub mod Readers
pub mod Readings
pub mod Turns
