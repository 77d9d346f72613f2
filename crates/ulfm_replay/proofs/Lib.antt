pub mod First
pub mod Carried
pub mod Swept
