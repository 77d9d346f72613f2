-- What private functions and proofs cite of what is played.
pub mod Tallied
pub mod Shown
