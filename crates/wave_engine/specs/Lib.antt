pub mod ExpansionPhase
pub mod Front
pub mod EngineView
pub mod Bounds
pub mod CacheProbe
