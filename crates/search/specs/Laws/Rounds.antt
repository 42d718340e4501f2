-- Laws of the search from a state of the code: the turn, and the loops of steps D and F.
pub mod Kinds
pub mod Loop
pub mod Turns
pub mod Walk
