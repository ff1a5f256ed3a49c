pub mod Bytes
pub mod Chain
pub mod Unique
pub mod Trying
pub mod Table
pub mod Overlong
