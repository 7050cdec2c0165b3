pub mod Letters
pub mod Written
pub mod Read
pub mod Digits
