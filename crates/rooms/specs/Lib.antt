pub mod Counts
pub mod Flags
