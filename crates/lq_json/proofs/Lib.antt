pub mod Opens
pub mod OrderLemmas
pub mod PushLaws
pub mod PushLemmas
pub mod ShapeLemmas
pub mod TextLemmas
pub mod Written
