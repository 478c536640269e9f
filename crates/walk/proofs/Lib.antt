pub mod Members
pub mod Turning
pub mod Sound
pub mod Chains
pub mod Whole
