use Rattle.std.proofs.Common.{[], ◌∷◌, refl, arith, lit<, lit≤}
use Rattle.h26x_model.specs.Send.Calls.{fresh_call}
use Rattle.h264_payload.specs.H264.{h264}
use Rattle.h26x_codec.specs.Codec.{fresh_packetizer_state}
use Rattle.h26x_cases.proofs.CaseLemmas.{fresh_is_one}
use Rattle.h26x_cases.proofs.receiver.an_ordered_delivery.Goals as goal

pub returns-clause-is : goal.returns-clause-is
returns-clause-is c = record {
  brought = record {
    sender = fresh_is_one;
    calls_are = (omega arith, (omega arith, tt));
    carried = (refl, (refl, tt));
    each = refl;
    sent = (lit< tt, (lit< tt, (lit< tt, tt)));
  };
  order = (tt, ((lit≤ tt, lit< tt), ((lit≤ tt, lit< tt), tt)));
}

pub returns-clause-written : goal.returns-clause-written
returns-clause-written c = λ out told those.
    let it = those (fresh_packetizer_state h264)
    (fresh_call 3 (0x65 ∷ 0x01 ∷ 0x02 ∷ 0x03 ∷ []) ∷ fresh_call 3 (0x61 ∷ 0x05 ∷ []) ∷ [])
    65535 (0 ∷ 2 ∷ 3 ∷ []) refl (returns-clause-is c) in
    it.0
