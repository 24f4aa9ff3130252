pub mod SlotWords
pub mod Breaks
pub mod Settling
