pub mod Rooms
pub mod Evidence
pub mod Passing
pub mod Entry
