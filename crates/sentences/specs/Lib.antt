pub mod Lent
pub mod Choosing
pub mod Measuring
pub mod Expanding
pub mod Working
pub mod Query
