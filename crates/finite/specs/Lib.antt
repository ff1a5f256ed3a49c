pub mod Sums
pub mod Steps
pub mod Lists
pub mod Says
