pub mod Shares
pub mod Lists
pub mod Drafts
pub mod Laws
