pub mod Folding
pub mod Moved
pub mod Fitting
pub mod Lists
pub mod Turning
