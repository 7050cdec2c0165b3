mod Packings
mod Stores
mod Loads
mod Lists
mod Vectors
