-- Planning: the definitions of document 01. What is proved about them, and evaluated plans, stand in proofs/.
pub mod Bounds
pub mod ByValue
pub mod Capacity
pub mod Cutting
pub mod Lookup
pub mod Modes
pub mod Numbers
pub mod Plan
pub mod Promises
pub mod Quiet
pub mod Refusals
pub mod Search
pub mod SpareLookup
pub mod Sum
pub mod Tables
