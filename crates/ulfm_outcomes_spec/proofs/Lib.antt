pub mod Coded
pub mod Judging
pub mod Open
pub mod SharedGoals
pub mod StayAway
pub mod Together
