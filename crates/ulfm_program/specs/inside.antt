-- What private functions and proofs alone cite.
pub mod Threads
pub mod Printed
