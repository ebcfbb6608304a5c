pub mod Objects
pub mod Rule
