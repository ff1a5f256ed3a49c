pub mod Deserving
pub mod Answers
