use Rattle.h265_payload.proofs.packet.H265PacketReader.format_meets_the_facts.Goals as goal

pub returns : goal.returns
returns c = λ codec. c.meets_the_facts.ensures codec.has_donl
