pub mod Marks
pub mod Conditions
pub mod Queries
pub mod Tables
pub mod Statements
