pub mod Notations
pub mod Answering
pub mod Keeping
pub mod Meanings
pub mod OneReading
pub mod Readables
pub mod ReadAnswers
