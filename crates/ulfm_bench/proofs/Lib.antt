pub mod Last
pub mod Crossing
