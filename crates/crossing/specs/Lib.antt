pub mod Texts
pub mod Weights
pub mod Determinants
pub mod Boxes
pub mod Crossing
pub mod Cases
pub mod Laws
