pub mod PlaceLaws
pub mod Sifting
pub mod Tables
pub mod Counts
pub mod Rooms
