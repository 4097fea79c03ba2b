-- The frame of a board file.
pub mod Frames
pub mod Framing
