-- The laws that carry what is ruled on the tables to the paper.
pub mod Lending
pub mod Facts
