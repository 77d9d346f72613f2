-- What invariants, private functions and proofs cite of jobs.
pub mod Noted
pub mod Label
pub mod Shortest
