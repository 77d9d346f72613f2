pub mod Family
pub mod Carried
pub mod Head
pub mod Lanes
pub mod Inbox
pub mod Shared
pub mod inside
