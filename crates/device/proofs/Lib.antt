pub mod DeviceCodes
pub mod DeviceDone
pub mod TimeAndCard
