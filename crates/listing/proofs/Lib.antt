-- The laws of listing. Promises gathers what specs/Promises.antt states; callers cite the others.
--     Fronts              what a reader finds at the front of a text, and when it is exact
--     Times               times and phases are read exactly
--     Words               a word is read exactly
--     Fields              a field, in quotes or without, and the byte behind it
--     Records             a record of three fields: the heading, and a train
--     Texts               what is read of a text is what it lists, and the record that is refused its first bad one
--     Unique              a text has one list of records at most
--     Counted             of a text that is well-formed to its end, the first bad record is the first that is not good
--     Answered            a number or a refusal, in the paper's words
--     Importing           what is promised of import
--     Layouts             the text of trains is a file of their records; how long it is
--     Lists               the text of trains lists them
--     Exporting           what is promised of export
--     Again               what is exported and imported again
pub mod Fronts
pub mod Times
pub mod Words
pub mod Fields
pub mod Records
pub mod Texts
pub mod Unique
pub mod Counted
pub mod Answered
pub mod Importing
pub mod Layouts
pub mod Lists
pub mod Exporting
pub mod Again
pub mod Promises
