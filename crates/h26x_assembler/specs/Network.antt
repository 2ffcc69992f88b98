-- A network that loses, repeats and reorders packets, and an assembler behind a buffer (ours).
use Rattle.std.specs.Prelude.{◌≡◌, ℕ, ◌<◌, List, length, map, None, Result, true, ◌≤◌, ◌^◌}
use Rattle.std.specs.List.{AllByRecursion}
use Rattle.h26x_core.specs.declared.error.PacketError.{PacketError}
use Rattle.h26x_model.specs.Send.Calls.{Call, AreCalls, all_entries}
use Rattle.h26x_model.specs.Payload.Facts.{AreCarried}
use Rattle.h26x_model.specs.Carry.Gaps.{whole_units}
use Rattle.h26x_model.specs.Send.PacketizerState.{PacketizerState, IsPacketizerState, state_units, state_packets}
use Rattle.h26x_model.specs.Receive.DepacketizerState.{Depacketization, AreWritten}
use Rattle.h26x_receiver.specs.declared.received.Received.{Received}
use Rattle.h26x_receiver.specs.Sequenced.{with_expected, after_answers, HaveSequencedAnswers, is_taken}
use Rattle.h26x_receiver.specs.Delivery.{packet_of_place, mask_of_places, NoneIsRefused, AreNearPlaces}
use Rattle.h26x_reorder.specs.Reordering.{IsReordered, in_order}
use Rattle.h26x_reorder.specs.ReorderBuffer.{reordered}

-- The places, in the order in which they come, of the packets that a network brings of those that
-- calls send: any of them may be lost, come twice, or before others that were sent earlier, but less
-- than a window apart. Packets can carry the units.
pub record IsNetwork (window : ℕ) (s : PacketizerState) (calls : List Call)
    (places : List ℕ) : Type 0 where
  pub sender : IsPacketizerState s
  pub calls_are : AreCalls calls
  pub carried : AreCarried s.format (state_units s (all_entries s.format calls))
  pub sent : AllByRecursion
      (λ place. place < length (state_packets s (all_entries s.format calls))) places
  pub near : IsReordered window places

-- Where all packets are taken, the places that a network brings are near once they are put in order:
-- gaps follow from the jumps, which with the window are at most 2^14.
abbrev pub ComeNear : ℕ → List ℕ → Type 0
ComeNear window places = (answers : List (Result Received PacketError)) → window ≤ 2 ^ 14 →
    IsReordered window places → AllByRecursion (λ answer. is_taken answer ≡ true) answers →
    AreNearPlaces None (in_order places) answers

-- what a buffer gives out of the packets that come
abbrev pub released_packets : ℕ → PacketizerState → List Call → ℕ → List ℕ → List (ℕ × List ℕ)
released_packets window s calls first places = reordered window
    (map (packet_of_place (state_packets s (all_entries s.format calls)) first) places)

-- What is written and told of what a buffer gives out, where none is refused: the units of the items
-- of which each packet came, whatever the order, in the order of sending, and nothing else.
abbrev pub UnitsComeThrough : ℕ → ℕ → Depacketization → Type 0
UnitsComeThrough window most w = (s : PacketizerState) (calls : List Call) (first : ℕ)
    (places : List ℕ) (answers : List (Result Received PacketError)) → w.state.format ≡ s.format →
    IsNetwork window s calls places →
    HaveSequencedAnswers most (with_expected w None)
    (released_packets window s calls first places) answers →
    NoneIsRefused answers →
    AreWritten w (whole_units most s calls (mask_of_places places
    (length (state_packets s (all_entries s.format calls)))))
    (after_answers most (with_expected w None) (released_packets window s calls first places)
    answers).at_work.out
    (after_answers most (with_expected w None) (released_packets window s calls first places)
    answers).at_work.extra
