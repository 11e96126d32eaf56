-- The laws of round: Trips has the two round trips. Promises gathers what specs/Promises.antt states.
pub mod Trips
pub mod Promises
