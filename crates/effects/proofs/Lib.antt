-- What the proofs of the functions stand on.
pub mod Edits
