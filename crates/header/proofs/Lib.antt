mod Fields
mod Answers
