-- Commands has what a reader wants to know of the meanings; the rest is what the proofs cite.
pub mod Cutting
pub mod Placing
pub mod Numbers
pub mod Lists
pub mod NewRole
pub mod Commands
