-- What a line of text means: the words that coordinators type, and the command that they spell.
pub mod Texts
pub mod Names
pub mod Meanings
pub mod Steps
