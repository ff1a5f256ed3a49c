pub mod Telling
pub mod Settled
