pub mod Tall
