-- what is promised
pub mod Table
pub mod Program
pub mod Raise
pub mod Demands
pub mod Sources
pub mod Printed
pub mod Document01Sheet
pub mod Document01Rules
pub mod Document01
pub mod Empty
pub mod EmptyPrograms
-- how it is proved
-- sheets of bytes, computed, and that those of version 1 have not moved
pub mod laws
