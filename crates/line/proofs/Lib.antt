-- The laws of line. Promises gathers what specs/Promises.antt states; callers cite the others.
pub mod Stores
pub mod Lines
pub mod Reading
pub mod Promises
