-- The job list of request 5: what it holds, what a claim and a release answer, and what became of it after a history of them.
pub mod Lists
pub mod Answers
pub mod Histories
