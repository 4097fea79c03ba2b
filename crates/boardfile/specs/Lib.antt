-- Reading a board file, as document 01 has it, and what is asked of one.
pub mod Faults
pub mod Answers
pub mod Parts
pub mod Stretches
