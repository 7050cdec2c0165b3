mod Chains
mod Windows
mod Calls
