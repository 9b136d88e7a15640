-- What is printed of a check (01, Printed lines), as bytes.
pub mod Lines
