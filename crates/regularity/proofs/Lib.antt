pub mod Faces
pub mod Occurrences
pub mod Scan
pub mod Facings
pub mod Clashes
pub mod Order
pub mod OneListing
pub mod MappedPatterns
pub mod Alike
pub mod Listed
mod Merging
mod Finding
mod Readings
mod Filled
mod Singles
mod Twos
pub mod Tables
mod Shared
mod Parts
