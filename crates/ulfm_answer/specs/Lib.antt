pub mod Report
pub mod Told
pub mod Trace
pub mod Reacting
pub mod inside
