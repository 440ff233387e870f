mod Positions
mod Bases
mod Counts
