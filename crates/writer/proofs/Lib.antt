-- OneFile says that a file has one board's tables and rights, Unique that a contract allows one outcome. The rest is what the proofs stand on.
pub mod Unique
pub mod OneFile
pub mod Ascending
pub mod FoundingRights
pub mod EdgeBytes
pub mod InThree
pub mod Puts
pub mod Writings
pub mod Counts
pub mod Filed
pub mod Places
