pub mod Slices
mod Verdicts
mod Weights
mod Zip
mod HeadParts
mod Stays
mod Projected
mod Fields
mod Records
mod Reducing
mod Cuts
mod Forms
mod Moves
mod Turning
