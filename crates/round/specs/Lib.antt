-- What round promises. Read Given (the order of the refusals), Answer (the functions that the contracts cite), then Promises (what
-- is proved of them).
pub mod Given
pub mod Answer
pub mod Promises
