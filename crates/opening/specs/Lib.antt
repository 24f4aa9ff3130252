pub mod Lower
pub mod Opened
