pub mod Walking
pub mod Rowing
pub mod Turning
pub mod Pairing
pub mod Judging
pub mod Calling
pub mod Determined
