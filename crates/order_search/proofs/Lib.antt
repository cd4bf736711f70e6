pub mod Reporting
pub mod Ordering
pub mod Rounds
pub mod Budgets
pub mod Namings
pub mod Searching
pub mod AheadRuns
