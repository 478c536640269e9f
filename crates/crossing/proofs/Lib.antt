pub mod Whole
pub mod Ring
mod SignRules
mod Sums
mod Minors
mod Rank
mod Giving
mod Worked
mod Sizes
mod Arranging
mod Noting
pub mod Fitting
pub mod FirstFault
pub mod Tested
mod Lawful
