pub mod Counting
pub mod Invented
pub mod Inventors
pub mod Lone
pub mod Used
