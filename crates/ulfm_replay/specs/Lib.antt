pub mod Lines
pub mod Turns
pub mod Ranks
pub mod Waits
pub mod Moves
pub mod Sweep
pub mod inside
