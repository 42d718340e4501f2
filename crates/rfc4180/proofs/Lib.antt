-- The laws of the definitions, and their evaluated examples. Assumes nothing.
pub mod Laws
pub mod Examples
