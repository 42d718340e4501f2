-- What is proved about the definitions beside this file.
pub mod Checked
pub mod Columns
pub mod Paired
pub mod Parts
pub mod Quiet
pub mod Verdicts
