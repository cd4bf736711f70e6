pub mod OrderName
pub mod OrderText
