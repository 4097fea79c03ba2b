-- The commands of a text, and what giving them to a board leaves; and the folder of a file.
pub mod Texts
pub mod Paths
