pub mod Bits
pub mod SlotWord
pub mod GivesSlots
