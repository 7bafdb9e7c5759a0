pub mod Opening
pub mod Act
pub mod Shown
pub mod Play
pub mod Parts
pub mod Ending
