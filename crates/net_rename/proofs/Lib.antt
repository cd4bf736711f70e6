pub mod Checking
pub mod Columns
pub mod Freedom
pub mod PairTexts
pub mod PortNames
pub mod Renamed
