pub mod KeyTests
pub mod Keys
pub mod Lookups
pub mod SameAndOrder
pub mod Tables
pub mod formers
