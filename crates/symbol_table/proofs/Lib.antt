pub mod Declarations
mod Places
pub mod Keys
mod Numbers
mod LookUps
pub mod Growing
pub mod Keeping
pub mod Numberings
pub mod Rereading
pub mod LiveTerms
