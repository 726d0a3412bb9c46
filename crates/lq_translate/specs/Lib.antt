pub mod Maps
pub mod Translated
pub mod Translation
pub mod TranslationLaws
