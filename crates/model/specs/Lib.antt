-- What the model's functions answer, over the tables.
pub mod Held
pub mod Listed
