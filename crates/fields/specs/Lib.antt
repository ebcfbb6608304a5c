pub mod Cut
pub mod Laws
pub mod Number
pub mod Places
