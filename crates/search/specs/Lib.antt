pub mod Fills
pub mod Nodes
pub mod Parts
pub mod Plans
pub mod Roots
