pub mod Hands
pub mod Entries
pub mod Laying
pub mod Taking
pub mod Replay
