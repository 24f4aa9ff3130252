pub mod Stepped
pub mod Telling
