pub mod Firsts
pub mod Tables
pub mod Images
