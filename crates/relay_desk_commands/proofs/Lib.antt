pub mod ScanLaws
pub mod LoadedJoint
pub mod CopiedPages
pub mod Reopened
pub mod Unsettled
pub mod AllDocuments
pub mod LongLines
