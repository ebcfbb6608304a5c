pub mod Table
pub mod Image
