pub mod Sharing
pub mod Settlement
