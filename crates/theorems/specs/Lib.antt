pub mod Past
pub mod Demands
