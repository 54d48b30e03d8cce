mod Shifts
mod Search
mod Bytes
mod Answers
