pub mod Ways
pub mod FrontWays
pub mod FrontAges
