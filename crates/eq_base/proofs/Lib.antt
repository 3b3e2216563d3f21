pub mod Lists
pub mod Trees
pub mod Positions
pub mod Replacing
pub mod Numbers
pub mod Arguments
pub mod Scans
pub mod Instances
pub mod Heads
pub mod Decimals
pub mod Mapped
pub mod ClassMembers
mod Ends
mod Reading
mod Built
mod Terms
mod Patterns
pub mod Clashing
