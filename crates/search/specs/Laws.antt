-- Laws of the definitions that the contracts cite.
pub mod Choice
pub mod Documents
pub mod Filling
pub mod FirstSet
pub mod Kept
pub mod Layout
pub mod Passes
pub mod Ranges
pub mod Rounds
pub mod Sets
pub mod Start
