pub mod Shape
pub mod Form
pub mod Held
pub mod Faults
pub mod Charts
