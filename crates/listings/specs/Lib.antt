pub mod Calls
pub mod Counting
pub mod Numbers
pub mod Working
