-- The laws of decimal. Promises gathers what specs/Promises.antt states; callers cite the others.
--     Notation            the decimal notation of a number
--     Numbers             digits, and the number that they stand for
--     Stores              the digits as they are written, the last first
--     Ways                a number that is read at an index, and the text behind it
pub mod Notation
pub mod Numbers
pub mod Stores
pub mod Ways
pub mod Promises
