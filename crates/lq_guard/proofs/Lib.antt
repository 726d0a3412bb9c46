pub mod GuardedLaws
pub mod HandingLaws
pub mod SeenLaws
