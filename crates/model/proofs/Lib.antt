-- The laws that the functions' proofs cite.
pub mod Holding
pub mod Modelled
pub mod Placing
pub mod Gathering
