-- Unique says that a file has one frame. The rest is what the proofs of the functions, and of the crates above, stand on.
pub mod Bytes
pub mod Frames
pub mod Unique
