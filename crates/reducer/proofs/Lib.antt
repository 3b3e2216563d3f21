mod Passed
mod Turned
mod ReadOn
