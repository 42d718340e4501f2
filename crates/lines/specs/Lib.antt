-- Lines put into an output: what the functions return and leave, and what is proved about that.
-- Assumes nothing.
pub mod Laws
pub mod Lines
pub mod Putting
