pub mod Rounds
pub mod Joining
