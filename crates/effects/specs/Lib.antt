-- The effects of commands on tables, as document 01 and request 2 have them.
pub mod Effects
pub mod Rows
