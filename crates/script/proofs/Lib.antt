pub mod Bridges
pub mod CallRounds
pub mod Lengths
pub mod Parses
pub mod SetupRounds
pub mod Wholes
