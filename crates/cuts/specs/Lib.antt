pub mod Tables
pub mod Marks
pub mod Sweep
