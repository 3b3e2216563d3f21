pub mod Continuations
pub mod Steps
pub mod Outlines
mod HeadTokens
pub mod Follows
pub mod OneReading
pub mod Counting
pub mod Reached
pub mod Lists
pub mod Prints
pub mod RoundTrip
