-- What is proved about the definitions beside this file.
pub mod Digits
pub mod Front
pub mod Lines
pub mod Loops
pub mod Putting
pub mod Reads
pub mod Values
