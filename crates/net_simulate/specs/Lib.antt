pub mod Columns
pub mod RankRows
pub mod Schedules
