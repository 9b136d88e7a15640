-- What the clause writer's functions put, in the paper's words.
pub mod Parts
