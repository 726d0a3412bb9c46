pub mod KeyLaws
pub mod OrderLaws
pub mod SamenessLaws
