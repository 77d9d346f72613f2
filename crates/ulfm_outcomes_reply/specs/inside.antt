-- What private functions and proofs cite of replies to `outcomes`.
pub mod Looking
pub mod Judging
pub mod Parts
pub mod Findings
