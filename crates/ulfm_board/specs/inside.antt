pub mod Places
pub mod Trail
