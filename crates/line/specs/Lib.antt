-- What line promises. Read Text (the words), Answer (the functions), then Promises (what is proved of them).
pub mod Text
pub mod Answer
pub mod Promises
