-- The four questions, as document 01 has them.
pub mod Questions
pub mod Scoped
pub mod Trusting
