pub mod Bet
