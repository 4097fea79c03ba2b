-- The file of a board, as document 01 has it, and writing one.
pub mod Files
pub mod Writing
pub mod Parts
