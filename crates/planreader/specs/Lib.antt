-- Reading a plan file: the plan by value, what the parts of the reading return, and what is proved about them.
pub mod Columns
pub mod Fields
pub mod Items
pub mod Laws
pub mod Opening
pub mod Parts
pub mod Plans
pub mod Quiet
pub mod Records
pub mod Results
