pub mod AcceptedSetLaws
pub mod MadeClosureLaws
