pub mod Bet
pub mod Cases
pub mod LawsAhead
pub mod LawsBack
pub mod Loop
pub mod Promises
pub mod Sound
pub mod Walk
