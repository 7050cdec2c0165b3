mod Fixed
mod Worked
