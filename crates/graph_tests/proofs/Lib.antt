pub mod AdditionSteps
pub mod AnsweredStates
