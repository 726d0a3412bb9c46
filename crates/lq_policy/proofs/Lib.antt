pub mod AdmissionLemmas
pub mod ExplainingLemmas
pub mod GuardLemmas
pub mod MembershipLemmas
pub mod NameLemmas
pub mod RightLemmas
pub mod WordLemmas
