pub mod Below
pub mod Sums
pub mod Lists
pub mod Faults
pub mod Refusals
pub mod Vertices
pub mod Frames
pub mod Boxes
