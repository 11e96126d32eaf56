-- The words of a dispatcher. Read Record (which words stand for what), Answer (the words after each call: what the contracts
-- cite), Played (a list of calls), Promises.
pub mod Record
pub mod Answer
pub mod Played
pub mod Promises
