pub mod Waits
pub mod Values
pub mod Words
