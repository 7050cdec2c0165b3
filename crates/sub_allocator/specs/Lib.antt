pub mod Buffers
pub mod Figures
