-- What is proved about the definitions beside this file.
pub mod Printing
pub mod RefusalPrint
pub mod HandOver
pub mod Aside
pub mod FileCall
