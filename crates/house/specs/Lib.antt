pub mod Draw
pub mod Charge
pub mod Loan
pub mod Work
pub mod ChargeLaws
pub mod LoanLaws
