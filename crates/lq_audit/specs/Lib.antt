pub mod Disclosure
pub mod DisclosureLaws
