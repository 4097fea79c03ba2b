-- What becomes of a result that is packed.
pub mod Told
