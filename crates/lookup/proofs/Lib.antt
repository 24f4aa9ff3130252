pub mod FirstWithin
pub mod FoundSlot
pub mod SweptRoom
