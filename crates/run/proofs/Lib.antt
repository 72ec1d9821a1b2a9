pub mod Touches
pub mod Releases
pub mod Traces
