pub mod Places
pub mod Words
pub mod Added
pub mod Standing
pub mod Laid
pub mod Fits
pub mod Outcome
