pub mod Digits
pub mod Joins
pub mod Turns
pub mod Steps
pub mod Within
pub mod Written
