pub mod Office
pub mod laws
