pub mod Codebook
pub mod Outcomes
pub mod Goals
pub mod Showing
pub mod Schedule
pub mod Scheduled
pub mod Told
pub mod Unmet
