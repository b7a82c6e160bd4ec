-- Lemmas on the tables and rows of a network.
pub mod Attaching
pub mod Firsts
pub mod LinkRows
pub mod Rows
pub mod Summaries
pub mod Turns
pub mod Worked
