mod Numerals
mod WordKinds
mod Parts
mod Seen
mod Rows
mod Built
mod Walk
mod Parsed
