-- What table promises. Read Row (a row, its tick and its trains), Given (when each refusal is given), Paper (an outcome in the paper's
-- numbers), Answer (the functions), then Promises (what is proved of them). Inside is for the private functions alone.
pub mod Row
pub mod Given
pub mod Paper
pub mod Answer
pub mod Promises
pub mod Inside
