-- The laws of fraction. Promises gathers what specs/Promises.antt states; callers cite the others.
pub mod Lowest
pub mod Order
pub mod WholeTicks
pub mod CommonMultiple
pub mod Promises
