pub mod Blocks
mod Steps
mod Owns
mod Rounding
mod Grants
pub mod Records
mod Stack
mod Invariant
mod Traces
pub mod Laws
pub mod Jobs
pub mod Lasting
pub mod Served
mod Statistics
pub mod Lives
pub mod Uses
mod Visits
mod Worked
