pub mod Asking
pub mod Explanations
pub mod Guards
pub mod Memberships
pub mod RoleRights
pub mod Roles
pub mod RowRules
pub mod Rules
