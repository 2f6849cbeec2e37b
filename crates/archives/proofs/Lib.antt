pub mod PacketLaws
pub mod FrameLaws
pub mod BlockLaws
