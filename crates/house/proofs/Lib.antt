pub mod Formed
pub mod Certified
pub mod Cheapest
pub mod Calling
pub mod Determined
pub mod Given
