pub mod Ended
pub mod Items
pub mod Within
