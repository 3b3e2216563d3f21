pub mod Items
pub mod Reading
pub mod Reachable
pub mod Demand
