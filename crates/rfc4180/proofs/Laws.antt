-- The laws of the definitions, from single bytes up to files. Assumes nothing.
pub mod Classes
pub mod Fields
pub mod Files
pub mod Places
pub mod Quotes
pub mod Records
pub mod Stores
pub mod Writer
