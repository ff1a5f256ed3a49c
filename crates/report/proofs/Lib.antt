pub mod Good
pub mod Laws
pub mod Round
pub mod Settled
