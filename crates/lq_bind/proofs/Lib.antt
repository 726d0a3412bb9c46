pub mod FrameLemmas
pub mod HostLemmas
pub mod Layers
pub mod MethodLemmas
pub mod SessionLemmas
pub mod TermLaws
pub mod WalkLemmas
pub mod Weights
