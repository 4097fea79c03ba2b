-- Unique (two outcomes that a contract allows coincide), Apart (an answer can be taken apart again), and what the proofs of the
-- functions stand on.
pub mod Unique
pub mod Apart
pub mod Bounds
