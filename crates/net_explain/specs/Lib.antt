pub mod Explaining
pub mod Text
pub mod Vcd
