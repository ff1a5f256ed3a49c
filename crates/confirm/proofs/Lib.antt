pub mod Running
pub mod Settled
pub mod Demanded
