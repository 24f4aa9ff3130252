pub mod Equations
pub mod Theorems
