-- The laws of judge. Promises gathers what specs/Promises.antt states; callers cite the others.
pub mod Walk
pub mod Ordered
pub mod Verdicts
pub mod Meaning
pub mod Promises
