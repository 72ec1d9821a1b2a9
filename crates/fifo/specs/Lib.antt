pub mod Fifo
