pub mod Words
pub mod Chart
pub mod Tests
pub mod Report
pub mod Judge
pub mod Listing
