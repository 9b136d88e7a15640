-- The laws that the clause writer's proofs cite.
pub mod Runs
pub mod Pieces
pub mod Whole
pub mod Nth
pub mod Tally
