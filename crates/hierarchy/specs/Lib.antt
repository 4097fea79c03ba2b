-- The words of document 01 on roles, edges, paths and scopes.
pub mod Tables
pub mod Words
pub mod First
pub mod Compute
pub mod Views
pub mod Engine
