pub mod Values
pub mod Lefts
pub mod Division
