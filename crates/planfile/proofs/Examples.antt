-- Files with what the planner prints for them, evaluated from the definitions.
pub mod Calls
pub mod Counts
pub mod Evaluation
pub mod Printed
pub mod Quiet
pub mod TurnedDown
pub mod Written
