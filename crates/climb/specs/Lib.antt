pub mod Evidence
pub mod Peel
pub mod Back
