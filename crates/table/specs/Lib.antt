pub mod Added
pub mod Answers
pub mod Choice
pub mod Pay
pub mod Queries
pub mod Rounds
pub mod Sound
pub mod With
