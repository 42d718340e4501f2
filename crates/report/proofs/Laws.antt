-- What is proved about the definitions beside this file.
pub mod Input
pub mod Numbers
pub mod Page
pub mod Shown
pub mod Words
