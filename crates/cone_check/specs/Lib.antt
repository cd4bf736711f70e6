pub mod ConeRounds
pub mod Batches
pub mod KnownPairs
pub mod EqualCones
pub mod JudgingOrder
pub mod ConeLevels
