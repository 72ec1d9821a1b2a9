pub mod Calls
pub mod Accepted
pub mod Ages
pub mod Given
