pub mod Dependents
