mod Joins
mod Hex
mod Parts
mod Readings
