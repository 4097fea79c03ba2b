-- What bars a role from a scope, as request 3 numbers it.
pub mod Bars
