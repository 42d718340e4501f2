-- The call with a file: what its parts return, and what is proved about them.
pub mod Calls
pub mod HandOver
pub mod Laws
pub mod Printing
