-- What show hands on to be printed: Standing.
pub mod Standing
