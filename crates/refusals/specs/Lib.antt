-- The rows of document 01's table on the board handed in.
pub mod Entitled
pub mod Refusals
pub mod Trusting
