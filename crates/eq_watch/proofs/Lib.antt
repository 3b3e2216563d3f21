pub mod Texts
pub mod Counts
pub mod Changing
pub mod Fronts
