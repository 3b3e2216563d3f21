pub mod Terms
pub mod Continuations
pub mod Steps
pub mod Counting
pub mod Outlines
mod HeadTokens
pub mod Reached
pub mod Prints
pub mod OneReading
pub mod RoundTrip
