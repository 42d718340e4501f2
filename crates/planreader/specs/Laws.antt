-- What is proved about the definitions beside this file.
pub mod Parts
pub mod Padding
pub mod Exits
pub mod Names
pub mod Words
pub mod Cuts
pub mod FourFields
pub mod FieldNumbers
pub mod Columns
pub mod Opening
pub mod Items
pub mod Quiet
pub mod Records
pub mod Pending
pub mod FileRead
pub mod Plans
