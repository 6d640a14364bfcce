pub mod Produced
pub mod Determined
pub mod Told
