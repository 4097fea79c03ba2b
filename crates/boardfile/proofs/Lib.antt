-- A reader starts at Theorems; Unique says that each contract allows one answer. The rest is what the proofs stand on.
pub mod Theorems
pub mod Unique
pub mod OneBoard
pub mod RoleBytes
pub mod EdgeRecords
pub mod RightBytes
pub mod Faultless
pub mod Readings
pub mod Asking
pub mod Fullest
pub mod Commanding
