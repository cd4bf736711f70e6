pub mod FourParts
pub mod Known
