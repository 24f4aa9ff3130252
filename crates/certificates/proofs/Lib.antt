pub mod CertificateCodes
pub mod CertificateRooms
pub mod Enables
pub mod Marking
pub mod MarksAndMessages
pub mod NamedCertificate
pub mod Refusing
