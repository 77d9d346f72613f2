-- What private functions and proofs cite of the threads of a job.
pub mod Joined
pub mod Played
pub mod Threads
pub mod Turns
pub mod Listed
pub mod Walk
