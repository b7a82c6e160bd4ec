pub mod Plans
pub mod ReadingKeys
pub mod Rooms
pub mod Runs
pub mod Worked
pub mod Pieces
pub mod OneText
mod WorkedLines
