pub mod Comparing
pub mod Restrictions
pub mod Violations
pub mod Regular
