-- What script promises. Read Says (the words), Answer (the functions), then Promises (what is proved of them).
pub mod Says
pub mod Answer
pub mod Promises
