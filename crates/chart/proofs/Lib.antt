pub mod Laws
pub mod Form
pub mod Ends
pub mod Keys
