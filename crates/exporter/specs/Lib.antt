-- What exporter says of its private functions; its public clauses cite listing.
--     Inside              what they write
pub mod Inside
