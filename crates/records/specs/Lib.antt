pub mod Sizes
pub mod Layout
pub mod Phone
pub mod Frame
