pub mod Ahead
pub mod Pushing
