pub mod Came
pub mod Settled
pub mod Showing
