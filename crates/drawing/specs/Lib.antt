pub mod Drawing
pub mod Conditions
