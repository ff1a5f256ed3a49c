pub mod Running
pub mod Fits
