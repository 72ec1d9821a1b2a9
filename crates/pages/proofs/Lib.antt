pub mod ListLaws
pub mod LinkLaws
pub mod Linked
pub mod RisingLaws
pub mod JoinLaws
