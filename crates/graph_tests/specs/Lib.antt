pub mod AdditionStores
pub mod KnownStates
