-- What invariants, private functions and proofs cite of worlds.
pub mod Steps
pub mod Rounds
pub mod Turns
