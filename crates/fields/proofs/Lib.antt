pub mod Scaled
pub mod Bounded
pub mod AlikeLayers
