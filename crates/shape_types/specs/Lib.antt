pub mod Faults
pub mod Scalars
pub mod Shapes
pub mod Texts
pub mod Trees
pub mod formers
pub mod Builder
