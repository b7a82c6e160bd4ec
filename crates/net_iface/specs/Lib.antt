pub mod DropTail
pub mod InterfaceFields
