-- The tests of a field, in the paper's words.
pub mod Faults
