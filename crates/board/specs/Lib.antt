-- The board: its records, soundness, rights, commands by number, and what is asked about named roles.
pub mod Boards
pub mod Rights
pub mod Asked
pub mod Answers
pub mod Codes
pub mod Kept
