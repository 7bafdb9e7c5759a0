pub mod Build
pub mod Cards
pub mod Setters
