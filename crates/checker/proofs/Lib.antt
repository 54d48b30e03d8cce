mod Answers
mod Faults
mod Parts
mod Pass
mod Unjudged
mod Whole
