pub mod Board
pub mod Search
