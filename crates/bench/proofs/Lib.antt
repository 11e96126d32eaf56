-- The laws of bench. Promises gathers what specs/Promises.antt states.
--     Naming              which train or place a refusal names
--     Longest             how long the numbers of a verdict on a table are, and its line
--     Fitting             every answer has room in the number, and is told by it
--     Listings            the same of the answers of import and export
--     Dispatching         the same of the dispatcher's answers
--     Seeing              whether a call was refused is seen in its number
pub mod Naming
pub mod Longest
pub mod Fitting
pub mod Listings
pub mod Dispatching
pub mod Seeing
pub mod Promises
