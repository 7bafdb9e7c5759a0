pub mod LawsRun
pub mod LawsTold
pub mod Cases
pub mod Promises
