-- What decimal promises. Read Digits (the words), Answer (the functions), then Promises (what is proved of them).
pub mod Digits
pub mod Answer
pub mod Promises
pub mod Inside
