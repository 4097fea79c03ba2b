-- The commands, as document 01 and the requests that have landed have them.
pub mod RightsAfter
pub mod Commands
pub mod EdgeParts
pub mod Trusting
