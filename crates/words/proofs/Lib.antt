-- The laws of the words of a dispatcher: Standing for the record that they stand for, Played for a list of calls; Promises gathers what
-- specs/Promises.antt states.
pub mod Standing
pub mod Played
pub mod Promises
