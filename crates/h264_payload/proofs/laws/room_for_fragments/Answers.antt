use Rattle.std.proofs.Common.{arith}
use Rattle.h26x_model.proofs.CodecLawLemmas.{has_room_from}
use Rattle.h264_payload.specs.H264.{h264}
use Rattle.h264_payload.proofs.laws.room_for_fragments.Goals as goal

pub returns : goal.returns
returns c = has_room_from h264 3 (omega arith)
