pub mod Accesses
pub mod GuardLaws
pub mod Guarding
pub mod Handing
pub mod SeenRows
