-- What reply promises. Read Lines (what is printed), Events (which line is printed for an event of a dispatcher's log), Answer (the
-- functions), then Promises (what is proved of them).
pub mod Lines
pub mod Events
pub mod Answer
pub mod Promises
pub mod Inside
