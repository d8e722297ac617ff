pub mod Faults
pub mod Source
pub mod Sink
pub mod FromMemory
pub mod Reading
pub mod Writing
pub mod FromStd
