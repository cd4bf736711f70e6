pub mod Index
pub mod Force
pub mod Order
pub mod Unfit
pub mod Tables
pub mod Walk
pub mod Examples
