pub mod Past
pub mod Faults
