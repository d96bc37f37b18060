pub mod DivisionSteps
pub mod Generators
pub mod Interleaving
pub mod ListedGenerators
pub mod OneCompletion
pub mod Remainders
pub mod Symbols
