-- Sums, counts and decisions over numbers, with no planning in them.
pub mod Decisions
pub mod Descent
pub mod Extremes
pub mod Lists
pub mod Sums
pub mod Update
