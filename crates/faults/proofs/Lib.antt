pub mod Faults
pub mod Tried
