pub mod Balls
pub mod Crossing
pub mod CrossingLaws
pub mod Post
