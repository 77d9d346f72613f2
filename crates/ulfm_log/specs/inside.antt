pub mod Chain
pub mod Rows
pub mod Made
