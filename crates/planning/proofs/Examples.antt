-- Plans with their whole answers, evaluated from the definitions.
pub mod Calls
pub mod Discerning
pub mod Evaluation
pub mod Lookups
pub mod Quiet
pub mod Starred
