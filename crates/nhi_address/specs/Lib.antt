pub mod Extends
pub mod NhiFields
pub mod NhiText
pub mod Number
