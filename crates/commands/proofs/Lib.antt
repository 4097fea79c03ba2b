-- SoundAfter says that a done command leaves a sound board, Unique that a contract allows one answer, Viewing that what is decided by a sound
-- board's own sets is document 01's answer. EdgeParts and TakingBack have request 2's theorems.
pub mod SoundAfter
pub mod Unique
pub mod Viewing
pub mod EdgeParts
pub mod TakingBack
pub mod RightsLeft
pub mod Late
pub mod Deciding
