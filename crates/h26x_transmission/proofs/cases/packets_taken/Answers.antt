use Rattle.std.proofs.Common.{[], ◌∷◌, false, ap, map, refl, ◌∙◌}
use Rattle.h26x_core.specs.ByteStream.{byte_stream}
use Rattle.h264_payload.specs.H264.{h264}
use Rattle.h26x_transmission.proofs.cases.packets_taken.Goals as goal

pub returns-clause-taken : goal.returns-clause-taken
returns-clause-taken c = ((0x65 ∷ []) ∷ [], refl, refl)

pub returns-clause-received : goal.returns-clause-received
returns-clause-received c = λ out told it.
    it.2.0 ∙ ap (byte_stream false) (c.received_by_places.ensures.only (map h264.read
    ((0x7c ∷ 0x85 ∷ 0x01 ∷ []) ∷ (0x7c ∷ 0x45 ∷ 0x02 ∷ []) ∷ [])) it.0 it.1)
