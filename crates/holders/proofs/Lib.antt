pub mod Joins
pub mod Chains
pub mod Sets
pub mod OneMore
pub mod Gathered
pub mod Spread
pub mod Cut
