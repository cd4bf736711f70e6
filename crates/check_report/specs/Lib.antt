pub mod Refusals
pub mod Decisions
pub mod Listing
pub mod Texts
pub mod Netlists
pub mod Wholes
pub mod Pairs
