pub mod Images
pub mod Applications
pub mod OperandsRead
pub mod ReadSystems
pub mod ReadRestrictions
pub mod Retracts
mod Scan
mod Nexts
mod Copying
mod Binding
mod Pushing
mod Replaced
pub mod Members
pub mod LeftSides
pub mod Readings
pub mod Recoding
pub mod ForestSteps
pub mod ForestDevelopments
pub mod Matchers
pub mod Sequential
pub mod Walks
pub mod Staying
pub mod TestedParts
pub mod Advancing
pub mod Existence
pub mod Joins
pub mod Paths
pub mod DecisionTrees
pub mod ForestStrategy
pub mod ReadPositions
pub mod Strategies
pub mod ForestRuns
pub mod SameRule
pub mod Confluence
pub mod Translation
pub mod Redexes
pub mod SameReading
pub mod Comparing
pub mod Regularity
pub mod Demands
pub mod Stepping
pub mod NextRedexes
pub mod Moving
pub mod CleanParts
pub mod Developing
pub mod Returning
pub mod SingleTrees
pub mod NextLaws
pub mod Deciding
pub mod Marking
pub mod Determined
pub mod RunLaws
pub mod Reaching
pub mod JoinedWalks
pub mod PlainRuns
pub mod Mismatches
pub mod Followed
mod Failing
mod Failures
mod Descending
mod Resting
mod FirstDemands
mod Stuck
mod Pasts
mod KindsOfValues
mod Steps
mod ValueHeads
mod Lives
pub mod SameTerms
pub mod Outcomes
pub mod Compared
pub mod Singles
pub mod MergedRights
pub mod RegularLists
mod Addition
