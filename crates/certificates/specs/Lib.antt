pub mod Decisions
pub mod StoredCertificate
pub mod MarkingRows
