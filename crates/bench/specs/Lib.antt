-- What bench promises. Read Answer (the number that each function hands back, and the figures), then Promises (that nothing is lost
-- in that number, that a refusal is seen in it, and how long a line is).
pub mod Answer
pub mod Promises
