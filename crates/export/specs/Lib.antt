-- What the exported functions return.
pub mod Numbers
pub mod Replies
