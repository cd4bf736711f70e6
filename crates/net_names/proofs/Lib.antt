pub mod NameTexts
pub mod Written
