pub mod Grounds
pub mod Walks
pub mod Law
