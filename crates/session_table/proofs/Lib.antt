mod Deadlines
mod Due
mod Keeping
mod Lists
mod Worked
