-- What a query comes to before any call's own answer, in the paper's words.
pub mod Fronted
