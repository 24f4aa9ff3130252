pub mod Runs
pub mod MayTouch
pub mod RecoveryKeys
pub mod Owners
