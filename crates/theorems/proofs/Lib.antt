pub mod Theorems
pub mod Numbers
pub mod Confirmed
pub mod Demands
