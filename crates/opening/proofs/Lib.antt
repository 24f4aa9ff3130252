pub mod ByParts
pub mod Opens
pub mod Offsets
