pub mod Order
pub mod Paying
pub mod Sound
pub mod Steps
pub mod Walk
pub mod With
