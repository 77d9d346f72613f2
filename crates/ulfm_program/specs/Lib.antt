pub mod Replies
pub mod Files
pub mod Laws
pub mod Deaths
pub mod inside
