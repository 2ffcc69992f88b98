use Rattle.std.proofs.Common.{true, false, arith}
use Rattle.h26x_model.proofs.CodecLawLemmas.{has_room_from}
use Rattle.h266_payload.specs.H266.{h266}
use Rattle.h266_payload.proofs.laws.room_for_fragments.Goals as goal

pub returns : goal.returns
returns c = record { plain = has_room_from (h266 false) 4 (omega arith); has_donl = has_room_from (h266 true) 6 (omega arith) }
