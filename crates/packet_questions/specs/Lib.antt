pub mod PacketReplies
