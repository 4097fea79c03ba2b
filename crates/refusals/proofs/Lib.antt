-- Offenders says that a 6 names somebody, and whom; Unique that the contract allows one answer. The rest is what the proofs of the functions stand on.
pub mod Blaming
pub mod Trying
pub mod Entitling
pub mod Offenders
pub mod Unique
pub mod Down
