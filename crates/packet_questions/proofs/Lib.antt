pub mod PacketReplyLaws
