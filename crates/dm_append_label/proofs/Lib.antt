pub mod CutParts
pub mod CutsSoFar
pub mod Near
