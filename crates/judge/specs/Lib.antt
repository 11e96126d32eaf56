-- What judge promises. Read Pairs (when a table is schedulable, and its pairs in order), Paper (what is printed of a verdict),
-- Answer (the verdict), then Promises (what is proved of it). Inside is for the private functions alone.
pub mod Pairs
pub mod Paper
pub mod Answer
pub mod Promises
pub mod Inside
