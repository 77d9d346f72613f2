pub mod History
pub mod Pairing
pub mod State
pub mod Calls
pub mod Arrived
pub mod inside
