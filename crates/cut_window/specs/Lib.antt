pub mod WindowParts
pub mod Windows
