pub mod Painting
pub mod Looking
pub mod Euler
