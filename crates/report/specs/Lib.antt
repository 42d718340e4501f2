-- What the test programs read and print by: what the functions return and leave. What is proved about that stands in proofs/.
-- Assumes nothing.
pub mod Answers
pub mod Input
pub mod Numbers
pub mod Page
pub mod Plans
pub mod Shown
pub mod Words
