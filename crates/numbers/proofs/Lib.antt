pub mod First
pub mod Kept
pub mod Numbers
pub mod Places
pub mod Taken
