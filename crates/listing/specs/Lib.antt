pub mod Faults
pub mod Numbers
pub mod Lines
pub mod Listing
