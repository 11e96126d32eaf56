-- The laws of script: the ways through the code, then numbers, then lines, and the promises.
pub mod Ways
pub mod Numbers
pub mod Lines
pub mod Promises
