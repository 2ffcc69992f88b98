use Rattle.h266_payload.proofs.packet.H266PacketReader.format_meets_the_facts.Goals as goal

pub returns : goal.returns
returns c = λ codec. c.meets_the_facts.ensures codec.has_donl
