pub mod Table
pub mod Refusing
pub mod Variables
pub mod Reading
pub mod Entries
