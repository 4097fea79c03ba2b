-- A run of commands, as request 6 has it, and its row of answers.
pub mod Runs
