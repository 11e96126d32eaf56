-- The laws of convert. Promises gathers what specs/Promises.antt states; callers cite the others.
--     Storing             a listing that is stored
--     Listings            a stored table that is listed
--     Rooms               a buffer of the longest length is never too short
--     Trips               a listing that is stored and listed again, and a stored table that is listed and stored again
--     Stands              what a program hands on to be written
pub mod Storing
pub mod Listings
pub mod Rooms
pub mod Trips
pub mod Stands
pub mod Promises
