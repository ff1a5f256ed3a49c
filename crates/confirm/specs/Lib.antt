pub mod Confirmed
pub mod Demand
