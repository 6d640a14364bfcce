pub mod Numbers
pub mod Summing
pub mod Stepping
pub mod Rounding
pub mod Finishing
pub mod Filling
pub mod Determined
