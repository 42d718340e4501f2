-- The checks on numbers: what they come to, and the parts that the code checks them in.
pub mod Checked
pub mod Columns
pub mod Laws
pub mod Parts
