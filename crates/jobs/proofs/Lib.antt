-- Theorems says what became of the list after a history; Steps, on which it stands, what one event does to each job. Deciding is what the
-- proofs of the functions stand on.
pub mod Deciding
pub mod Steps
pub mod Theorems
