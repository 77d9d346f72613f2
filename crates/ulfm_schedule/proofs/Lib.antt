pub mod Due
pub mod Waiting
