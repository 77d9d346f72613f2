-- What invariants, private functions and proofs cite of ends.
pub mod Wiring
pub mod Tagged
pub mod SharedWiring
pub mod Passes
pub mod Emptying
