pub mod Bound
pub mod Frames
pub mod Hosts
pub mod MethodNames
pub mod Operators
pub mod Outcomes
pub mod Stages
pub mod Statements
