pub mod Decisions
pub mod FormRights
pub mod Hosts
