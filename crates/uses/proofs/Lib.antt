mod Sizes
mod Grows
mod Rests
mod Lives
mod Openings
