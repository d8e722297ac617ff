pub mod AloneLaws
pub mod AlteredLaws
pub mod GoesLaws
