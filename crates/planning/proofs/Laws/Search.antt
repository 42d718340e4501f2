-- Laws of the search: its choice, its steps, its bound and its tries.
pub mod Bound
pub mod Choice
pub mod Steps
pub mod Tries
