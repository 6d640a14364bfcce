pub mod First
pub mod Follow
pub mod Productive
pub mod Cost
pub mod Kinds
