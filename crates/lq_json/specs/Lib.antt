pub mod Items
pub mod Lines
pub mod Pushing
pub mod Replies
pub mod Shapes
pub mod Texts
