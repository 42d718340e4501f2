-- The plan file: the definitions of document 01. What is proved about them, and evaluated files, stand in proofs/.
pub mod Bounds
pub mod FileCall
pub mod FilePlan
pub mod Holding
pub mod Numerals
pub mod PlanLines
pub mod Print
pub mod Promises
pub mod Reading
