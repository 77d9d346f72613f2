pub mod Lines
pub mod Rising
pub mod Endings
pub mod Any
pub mod Unlike
pub mod Asked
pub mod Telling
