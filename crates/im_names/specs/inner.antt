pub mod TargetNumbers
pub mod FittingLiterals
