-- Keeping says that what a sound board keeps is document 01's, Unique that tables, rights and soundness leave one board. The rest is what the
-- proofs of the functions stand on.
pub mod Keeping
pub mod Unique
pub mod Founding
pub mod Rules
pub mod Looking
pub mod Fitting
pub mod Asking
pub mod Answering
pub mod Codes
pub mod Reading
