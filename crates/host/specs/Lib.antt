-- What the functions for programs in C answer.
pub mod Answers
pub mod Jobs
