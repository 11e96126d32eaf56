-- The laws of save: Stores says what the private functions write.
pub mod Stores
