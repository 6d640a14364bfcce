pub mod Exports
pub mod Slices
