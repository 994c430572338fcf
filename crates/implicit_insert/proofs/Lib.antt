mod Needs
mod Own
