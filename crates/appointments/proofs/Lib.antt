mod Rows
mod Sound
