pub mod Running
pub mod Writing
