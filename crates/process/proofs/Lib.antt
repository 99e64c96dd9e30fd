pub mod Interleavings
pub mod Examples
pub mod Traces
pub mod TraceExamples
