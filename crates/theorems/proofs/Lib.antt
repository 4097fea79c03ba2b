-- The three demands, with the names of what they rest on.
pub mod Demands
