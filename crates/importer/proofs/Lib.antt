-- The laws of importer.
--     Ways                the ways through the code that reads a record
--     Answers             the loop that reads all records, the checks, and the ways through `import`
--     Writes              the loop that writes the trains
pub mod Ways
pub mod Answers
pub mod Writes
