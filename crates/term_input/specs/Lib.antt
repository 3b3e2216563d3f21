pub mod Places
pub mod Ending
pub mod Inputs
pub mod Readers
pub mod TermReading
pub mod Printing
pub mod Streams
