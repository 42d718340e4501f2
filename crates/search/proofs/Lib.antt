-- Lemmas that the proofs of several functions share.
pub mod Begun
