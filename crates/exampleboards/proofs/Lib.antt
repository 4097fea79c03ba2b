-- The theorem on the table of examples, the slips of a careful reader, and what the two stand on.
pub mod Theorem
pub mod Slips
pub mod Entries
pub mod Answering
pub mod Ordering
pub mod Leaving
