pub mod Operands
pub mod Referents
pub mod Shapes
pub mod Sums
