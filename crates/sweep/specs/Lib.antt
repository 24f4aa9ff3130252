pub mod FirstPassing
pub mod LowestBroken
