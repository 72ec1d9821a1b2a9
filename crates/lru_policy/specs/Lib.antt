pub mod Lru
