pub mod Folds
pub mod Promises
