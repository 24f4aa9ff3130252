pub mod Timeline
pub mod Unrolls
pub mod Running
pub mod Played
