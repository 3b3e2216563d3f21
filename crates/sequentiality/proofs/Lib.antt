pub mod Agreeing
pub mod Found
pub mod Sequence
pub mod Alike
