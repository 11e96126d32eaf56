-- The laws of reply. Promises gathers what specs/Promises.antt states; `play` cites that no line is longer, in Texts.
pub mod Texts
pub mod Events
pub mod Promises
