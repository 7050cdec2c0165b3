pub mod Powers
pub mod Pads
pub mod Spans
pub mod Laws
