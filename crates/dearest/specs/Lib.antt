pub mod Rounds
pub mod Step
pub mod Defined
pub mod Calls
