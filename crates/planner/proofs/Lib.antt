pub mod Taken
pub mod Sheets
pub mod Folds
pub mod Digits
pub mod Cuts
pub mod Laid
pub mod Turns
pub mod Written
