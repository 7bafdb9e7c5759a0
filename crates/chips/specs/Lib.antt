pub mod Rule
pub mod Whole
