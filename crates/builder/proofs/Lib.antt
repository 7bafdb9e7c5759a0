pub mod Building
pub mod Alike
pub mod Order
pub mod LawsKey
pub mod LawsPlaces
pub mod LawsRows
pub mod Promises
pub mod Worked
