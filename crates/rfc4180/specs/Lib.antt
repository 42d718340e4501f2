-- RFC 4180: its bytes and grammar, where records end, the reading, the writer. The laws that tie them together stand in proofs/.
-- Assumes nothing.
pub mod Bytes
pub mod Text
pub mod Grammar
pub mod Records
pub mod Fields
pub mod Writer
