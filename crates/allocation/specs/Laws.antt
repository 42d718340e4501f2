-- Laws of the definitions that the contracts cite.
pub mod Bisection
pub mod Calls
pub mod Modes
pub mod Running
pub mod Searches
pub mod Spares
