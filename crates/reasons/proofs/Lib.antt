pub mod Rows
pub mod Sweeps
pub mod LinesPlaced
pub mod HolderLines
pub mod Whole
pub mod Room
pub mod FirstDomain
