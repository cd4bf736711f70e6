pub mod Singles
pub mod Drawn
pub mod WordBits
pub mod Firsts
pub mod Ordering
pub mod Differing
pub mod Finding
