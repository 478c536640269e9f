pub mod Below
pub mod Summed
pub mod Padded
pub mod Vertexes
pub mod Framed
pub mod Places
pub mod Told
pub mod Made
