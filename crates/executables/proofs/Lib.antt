pub mod ActsOnExecutable
pub mod ExecutablesDone
pub mod ExecutableCodes
pub mod ExecutableRooms
pub mod Tells
pub mod Untouched
pub mod ExecutableWrites
