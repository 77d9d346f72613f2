pub mod Follow
pub mod Told
