pub mod Finite
pub mod FormTests
pub mod Listed
