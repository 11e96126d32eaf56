-- What listing promises. Read Grammar (RFC 4180), Means (good records, listings), Layout (the text that is written), Given (when a
-- refusal is given), Paper (the answers in the paper's numbers), Answer (the functions), then Promises (what is proved of them).
pub mod Grammar
pub mod Means
pub mod Layout
pub mod Given
pub mod Paper
pub mod Answer
pub mod Promises
