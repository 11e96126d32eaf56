-- What stream promises: Reading says how much of a buffer was read. Trying is for its own functions: a call that is made again.
pub mod Reading
pub mod Trying
