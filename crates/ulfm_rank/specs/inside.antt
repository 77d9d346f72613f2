pub mod Answers
pub mod Requests
pub mod Fields
pub mod Rank
pub mod Quiet
