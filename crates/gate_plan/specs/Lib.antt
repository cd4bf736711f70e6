pub mod Asking
pub mod Building
pub mod Folds
pub mod Need
pub mod Needing
pub mod Plans
pub mod Conjoining
