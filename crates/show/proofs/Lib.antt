-- The law that the proof of `line_in` cites.
pub mod Lines
