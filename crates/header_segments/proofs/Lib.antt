pub mod FieldSets
pub mod Fitting
pub mod Refusals
pub mod SpellingLaws
