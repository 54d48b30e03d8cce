pub mod Registers
pub mod Glossary
pub mod Templates
pub mod Numbers
pub mod Trail
pub mod Code
pub mod laws
