-- What private functions cite of the lines of a sweep.
pub mod Kinds
