pub mod Filled
pub mod First
pub mod Folds
pub mod Stands
pub mod Tests
