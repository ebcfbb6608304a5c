pub mod Placed
pub mod Imaging
pub mod Sets
