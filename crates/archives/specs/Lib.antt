pub mod Packets
pub mod Framing
pub mod Blocks
