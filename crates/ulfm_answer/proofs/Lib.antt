pub mod ReadBack
pub mod Crossing
pub mod Following
pub mod Positions
