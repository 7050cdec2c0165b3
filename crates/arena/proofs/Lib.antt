mod Joins
pub mod Table
pub mod Sources
pub mod Steps
