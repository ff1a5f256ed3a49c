pub mod Answers
pub mod Counted
pub mod Endings
pub mod Texts
