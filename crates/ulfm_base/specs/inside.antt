pub mod Body
pub mod Note
