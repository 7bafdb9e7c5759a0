pub mod Laws
pub mod LawsBack
pub mod LawsLowest
pub mod Promises
