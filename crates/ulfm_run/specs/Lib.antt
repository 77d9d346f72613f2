pub mod Flow
pub mod Fault
pub mod inside
