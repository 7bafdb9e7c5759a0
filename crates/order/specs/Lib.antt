pub mod GoodOrder
pub mod Run
pub mod Seatwise
pub mod Step
