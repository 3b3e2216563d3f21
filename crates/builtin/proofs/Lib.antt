mod Limits
mod Lefts
mod Operands
mod Divisions
