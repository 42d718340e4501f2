-- The laws of the definitions, from single bytes up to files. Assumes nothing.
pub mod Spans
pub mod Scans
pub mod Outside
pub mod RecordSpans
pub mod Undoubling
pub mod Parts
pub mod Reader
pub mod ReaderSteps
pub mod FieldReads
pub mod Forms
pub mod Promises
