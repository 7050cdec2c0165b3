pub mod Handles
pub mod Lives
pub mod Openings
