pub mod SerpentineOrder
pub mod Picked
pub mod Conditional
pub mod Showing
