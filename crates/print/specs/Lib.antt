-- What the programs print (01, Printed lines), as bytes.
pub mod Lines
