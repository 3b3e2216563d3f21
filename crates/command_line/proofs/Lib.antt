pub mod OptionNames
pub mod OneReading
pub mod OneTask
pub mod Beginning
pub mod Giving
pub mod Leading
pub mod Asking
