-- The laws that the proofs of `boardchange` cite.
pub mod Giving
