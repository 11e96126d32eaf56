-- The laws that the proofs of the functions cite.
pub mod Fronts
pub mod Tries
