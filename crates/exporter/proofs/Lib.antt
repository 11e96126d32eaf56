-- The laws of exporter.
--     Stores              what the private functions write
--     Lines               the loops over the trains of a row
pub mod Stores
pub mod Lines
