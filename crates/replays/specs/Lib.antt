pub mod Output
pub mod Merged
