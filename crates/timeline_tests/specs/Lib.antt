pub mod Tame
