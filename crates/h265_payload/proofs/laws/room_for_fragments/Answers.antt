use Rattle.std.proofs.Common.{true, false, arith}
use Rattle.h26x_model.proofs.CodecLawLemmas.{has_room_from}
use Rattle.h265_payload.specs.H265.{h265}
use Rattle.h265_payload.proofs.laws.room_for_fragments.Goals as goal

pub returns : goal.returns
returns c = record { plain = has_room_from (h265 false) 4 (omega arith); has_donl = has_room_from (h265 true) 6 (omega arith) }
