pub mod ClockLaws
pub mod Marks
