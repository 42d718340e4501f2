-- The allocation: what its inner functions return and leave, and what is proved about them.
pub mod Ends
pub mod Laws
pub mod Running
pub mod Usable
