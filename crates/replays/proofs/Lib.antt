pub mod Merging
pub mod Writing
pub mod Short
pub mod Telling
