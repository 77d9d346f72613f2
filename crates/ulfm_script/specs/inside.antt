-- What invariants, private functions and proofs cite of players.
pub mod Underway
pub mod SoFar
pub mod Joint
pub mod Player
