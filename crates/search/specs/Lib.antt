-- The search: what it promises, what the code's state stands for, and what its decisions and results are.
pub mod Laws
pub mod Layout
pub mod Members
pub mod Promises
pub mod Sets
pub mod Steps
