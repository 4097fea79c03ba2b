-- Unique says that a contract allows one answer, Viewing that what is read off a sound board's own sets is document 01's answer.
pub mod Unique
pub mod Viewing
pub mod Unsound
