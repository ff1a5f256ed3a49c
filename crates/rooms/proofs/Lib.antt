pub mod Rooms
pub mod Flagging
