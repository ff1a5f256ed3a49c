pub mod Text
pub mod Follow
pub mod Pages
pub mod Kinds
pub mod Printed
