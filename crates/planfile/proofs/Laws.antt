-- What is proved about the definitions beside this file.
pub mod Tests
pub mod Listed
pub mod Records
pub mod Reading
pub mod Holding
pub mod Refusals
pub mod Decimals
pub mod PieceLines
pub mod Print
pub mod PrintLength
pub mod ReadBack
pub mod PlanFile
pub mod Promises
pub mod Program
