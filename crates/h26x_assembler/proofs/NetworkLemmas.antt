-- What a network brings through a buffer.
use Rattle.std.proofs.Common.{◌≡◌, ℕ, zero, suc, ◌+◌, ◌<◌, ◌≤◌, Bool, List, [], ◌∷◌, length, map, slice_index_or, None, refl, ap, ◌∙◌, subst}
use Rattle.std.specs.Prelude.{◌==◌}
use Rattle.std.specs.List.{list_any, range_with_len}
use Rattle.std.proofs.Math.Bool.{or-false}
use Rattle.h26x_model.specs.Send.Calls.{all_entries}
use Rattle.h26x_model.specs.Payload.Facts.{IsPayloadFormat}
use Rattle.h26x_model.specs.Carry.Gaps.{whole_units}
use Rattle.h26x_model.specs.Receive.DepacketizerState.{Depacketization, AreWritten}
use Rattle.h26x_model.specs.Send.PacketizerState.{state_packets}
use Rattle.h26x_receiver.specs.Sequenced.{with_expected, after_answers}
use Rattle.h26x_receiver.specs.Delivery.{packet_of_place, WritesThoseOfCalls}
use Rattle.h26x_reorder.specs.Reordering.{in_order}
use Rattle.h26x_assembler.specs.Network.{released_packets, UnitsComeThrough}
use Rattle.h26x_assembler.proofs.GapLemmas.{gaps_short}
use Rattle.h26x_reorder.proofs.ReorderLemmas.{puts_below, among_puts}
use Rattle.h26x_reorder.proofs.PlaceShiftLemmas.{put_in_order_all}

-- the law of packets in order, as it stands in `h26x_receiver`
abbrev pub WritesThoseThatCame : Type 0
WritesThoseThatCame = (most : ℕ) (w : Depacketization) → WritesThoseOfCalls most w

-- those that came in order are those that came
pub same_in_range : (places : List ℕ) (from count : ℕ) →
    map (λ q. list_any (λ it. it == q) (in_order places)) (range_with_len from count) ≡ map (λ q. list_any (λ it. it == q) places) (range_with_len from count)
same_in_range places from zero = refl
same_in_range places from (suc count) =
    ap (λ (b : Bool). b ∷ map (λ q. list_any (λ it. it == q) (in_order places)) (range_with_len (from + 1) count)) (among_puts from places [] ∙ or-false (list_any (λ it. it == from) places))
    ∙ ap (λ (l : List Bool). list_any (λ it. it == from) places ∷ l) (same_in_range places (from + 1) count)

-- units come through a network
pub come_through : (window most : ℕ) (w : Depacketization) → 0 < window → window ≤ 16384 → IsPayloadFormat w.state.format → WritesThoseThatCame → UnitsComeThrough window most w
come_through window most w some half ok law = λ s calls first places answers same it each none.
    let sent = state_packets s (all_entries s.format calls) in
    let packets = released_packets window s calls first places in
    subst (λ (mask : List Bool). AreWritten w (whole_units most s calls mask) (after_answers most (with_expected w None) packets answers).at_work.out
    (after_answers most (with_expected w None) packets answers).at_work.extra)
    (same_in_range places 0 (length sent))
    (law most w ok packets answers each none s calls first (in_order places) same (record {
      brought = record {
        sender = it.sender;
        calls_are = it.calls_are;
        carried = it.carried;
        each = put_in_order_all window (map (packet_of_place sent first) places) some half (λ place. slice_index_or sent place []) first places refl it.near;
        sent = puts_below (length sent) places [] it.sent tt;
      };
      order = gaps_short window places half it.near;
    }))
