pub mod Text
pub mod Line
pub mod Append
pub mod Lent
pub mod Calls
pub mod Says
pub mod Report
