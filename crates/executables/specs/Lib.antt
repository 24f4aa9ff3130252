pub mod Acting
pub mod TableRows
