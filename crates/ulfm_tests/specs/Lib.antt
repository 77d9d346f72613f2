pub mod Counters
pub mod Foretold
pub mod Inventing
