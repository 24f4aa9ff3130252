pub mod Handled
pub mod Plans
pub mod RefusalCodes
pub mod Retiring
