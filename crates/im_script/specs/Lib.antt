pub mod Forms
pub mod Lines
pub mod Generated
pub mod inner
