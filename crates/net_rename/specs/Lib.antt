pub mod PairText
pub mod Renaming
