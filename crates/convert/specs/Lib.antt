-- What convert promises. Read Given (when each call refuses), Answer (the functions that the contracts cite), then Promises (what is
-- proved of them). Standing is for the programs: what they hand on to be written.
pub mod Given
pub mod Answer
pub mod Promises
pub mod Standing
