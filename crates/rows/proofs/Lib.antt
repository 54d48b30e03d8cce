mod Carrying
mod Appending
