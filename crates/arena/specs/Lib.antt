pub mod Powers
pub mod Rings
pub mod Meaning
pub mod Keeps
pub mod Arenas
pub mod Faults
pub mod Calls
pub mod Views
