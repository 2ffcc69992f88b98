use Rattle.std.proofs.Common.{arith, ◌≡◌, ◌-◌, ◌∙◌, ap, refl, List, [], ◌∷◌, ℕ, length, map, take, drop}
use Rattle.std.proofs.lemmas.List.{length-drop, take_all}
use Rattle.h26x_core.specs.H264Unit.{type_of, type_of_first}
use Rattle.h26x_core.specs.Pieces.{pieces_of}
use Rattle.h26x_model.specs.Payload.Reading.{without_don}
use Rattle.h26x_depacketizer.specs.DepacketizerView.{taken_as}
use Rattle.h26x_depacketizer.proofs.AggregateLemmas.{units_only}
use Rattle.h26x_depacketizer.proofs.ReceivingLemmas.{units_taken}
use Rattle.h264_payload.specs.H264.{read, aggregate_of, stap_units}
use Rattle.h264_payload.proofs.packet.read_stap.Goals as goal

-- a packet of type 24 is read by what stands behind its first byte
stap_read : (packet bytes : List ℕ) → type_of_first packet ≡ 24 → bytes ≡ drop 1 packet → read packet ≡ aggregate_of (pieces_of bytes)
stap_read [] bytes type same = absurd (omega arith)
stap_read (first ∷ rest) bytes type same = let type : type_of first ≡ 24 = type in rw (same, type) refl

pub returns-clause-accepted : goal.returns-clause-accepted
returns-clause-accepted c =
    let packet = c.args.packet.now in
    let all = take_all (length packet - 1) (drop 1 packet) (simp length-drop (omega arith)) in
    let units = stap_units (take (length packet - 1) (drop 1 packet)) in
    record {
      reading = ap taken_as (stap_read packet _ c.requires all ∙ c.in_ok-size.ensures.whole) ∙ units_taken (map without_don units) units (units_only units);
      checked = c.in_ok-size.ensures.size;
    }
