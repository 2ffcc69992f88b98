use Rattle.std.proofs.Common.{◌∙◌, ap, map, ℕ, Bool, true, [], ◌∷◌, refl, arith, lit<, lit≤}
use Rattle.h26x_model.specs.Send.Calls.{fresh_call}
use Rattle.h264_payload.specs.H264.{h264}
use Rattle.h26x_codec.specs.Codec.{fresh_packetizer_state}
use Rattle.h26x_cases.proofs.CaseLemmas.{fresh_is_one}
use Rattle.h26x_assembler.specs.StampedCalls.{stamped_call}
use Rattle.h26x_assembler.proofs.PastLimitLemmas.{within_same}
use Rattle.h26x_cases.proofs.access_units.a_stream_left.Goals as goal

pub returns : goal.returns
returns c = λ units left.
    let calls = stamped_call 3000 (fresh_call 3 (0x65 ∷ 0x01 ∷ 0x02 ∷ 0x03 ∷ [])) ∷ stamped_call 6000 (fresh_call 3 (0x61 ∷ 0x05 ∷ [])) ∷ [] in
    let it = left (fresh_packetizer_state h264) calls 65535 true (0 ∷ 2 ∷ 3 ∷ []) refl refl (record {
      streamed = record {
        sender = fresh_is_one;
        calls_are = (omega arith, (omega arith, tt));
        carried = (refl, (refl, tt));
      };
      each = refl;
      sent = (lit< tt, (lit< tt, (lit< tt, tt)));
      order = ((lit≤ tt, lit< tt), ((lit≤ tt, lit< tt), ((lit≤ tt, lit< tt), tt)));
    }) (λ some. tt, (λ some. tt, tt)) in
    ap (map {B = ℕ × Bool} (λ u. (u.timestamp, u.is_whole))) (it.behind ∙ within_same 12 it.given _ it.each (lit≤ tt, (lit≤ tt, tt)))
