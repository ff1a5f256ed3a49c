pub mod Changes
pub mod Freeing
pub mod Mixed
pub mod Peels
pub mod Counts
pub mod Ends
pub mod Backs
