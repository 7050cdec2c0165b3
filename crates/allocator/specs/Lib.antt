pub mod Layouts
pub mod Faults
pub mod Memory
pub mod Answers
pub mod Laws
pub mod Stats
