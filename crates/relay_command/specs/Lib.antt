pub mod Schemes
