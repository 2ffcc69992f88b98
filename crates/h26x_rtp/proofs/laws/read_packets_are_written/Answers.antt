use Rattle.h26x_rtp.proofs.WritingLemmas.{read_is_written, refused_without_room}
use Rattle.h26x_rtp.proofs.laws.read_packets_are_written.Goals as goal

pub returns : goal.returns
returns c = record { same = read_is_written; refused = refused_without_room }
