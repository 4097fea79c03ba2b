-- What a board may be that was reached by commands, and what commands on files leave.
pub mod OnFiles
pub mod Reached
