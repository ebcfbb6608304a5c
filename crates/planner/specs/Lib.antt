pub mod Plan
pub mod Numbers
pub mod Faults
pub mod Packs
pub mod PackLaws
