-- The laws of sets of roles, for whoever stands on `sets`.
pub mod Bools
pub mod Digits
pub mod Laws
pub mod Members
