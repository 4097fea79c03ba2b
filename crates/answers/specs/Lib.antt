-- An answer in one number.
pub mod Packing
