mod Latest
mod Rounds
mod Worked
