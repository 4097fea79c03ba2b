-- The examples of document 01 and of the requests as one table, and what it takes to run it.
pub mod Boards
pub mod Answer
pub mod Table
