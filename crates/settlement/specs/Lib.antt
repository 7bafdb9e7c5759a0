pub mod Hand
pub mod Settlement
