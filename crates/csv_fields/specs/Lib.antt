-- Reading by RFC 4180: what the functions on slices return, and the laws that tie it to the definitions.
-- Assumes nothing.
pub mod Results
pub mod Spans
pub mod Scans
pub mod Outside
pub mod Reader
pub mod Undoubling
pub mod Promises
pub mod Laws
