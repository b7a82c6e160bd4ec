mod Rows
mod Views
mod Words
mod Stays
mod Shares
mod Taken
mod Noting
