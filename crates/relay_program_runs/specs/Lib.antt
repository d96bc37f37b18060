pub mod Passed
pub mod Law
pub mod Written
pub mod Worked
pub mod Lines
pub mod InTurn
pub mod Where
pub mod WorkedLines
