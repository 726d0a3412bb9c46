pub mod DenialLaws
pub mod PolicyLaws
pub mod RightLaws
pub mod Rights
pub mod RuleLaws
pub mod Totality
pub mod TotalityLaws
pub mod Visible
