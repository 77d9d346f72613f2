pub mod Unswept
pub mod Tallied
pub mod Failing
pub mod Left
pub mod Statuses
pub mod Rows
