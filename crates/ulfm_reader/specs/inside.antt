-- What private functions and proofs cite of what is read.
pub mod Reading
