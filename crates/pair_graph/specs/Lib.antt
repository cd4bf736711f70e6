pub mod Equal
pub mod Graphs
pub mod LiteralLaws
pub mod Literals
pub mod Mixing
pub mod Trivial
