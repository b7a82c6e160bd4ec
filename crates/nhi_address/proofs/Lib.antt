pub mod Digits
pub mod NhiTexts
pub mod Reading
pub mod Worked
