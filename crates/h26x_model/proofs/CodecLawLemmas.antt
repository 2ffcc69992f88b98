-- What the laws of each codec take from those of all.
use Rattle.std.proofs.Common.{◌≡◌, ℕ, ◌+◌, ◌*◌, ◌<◌, ◌≤◌, false, List, [], ◌∷◌, length, length-append, drop, refl, arith}
use Rattle.std.specs.Prelude.{◌==◌}
use Rattle.std.specs.List.{AllByRecursion}
use Rattle.std.proofs.lemmas.List.{length-take}
use Rattle.std.proofs.lemmas.Bool.Decides.{nat_tests}
use Rattle.h26x_model.specs.Payload.Format.{Format, donl_len, fragment_header_len}
use Rattle.h26x_model.specs.Send.Calls.{Call, AreCalls, all_entries}
use Rattle.h26x_model.specs.Send.Plan.{fits_one_packet, is_dropped}
use Rattle.h26x_model.specs.Send.Packets.{fragment_room, fragmented_bytes, fragment_count, fragment_body, fragment}
use Rattle.h26x_model.specs.Send.Fragments.{AreFragments, IsLong, GoesInFragments, HasRoomFrom}
use Rattle.h26x_model.specs.Payload.Don.{DonsInOrder}
use Rattle.h26x_model.specs.Carry.Detection.{AreDetected}
use Rattle.h26x_model.specs.Payload.Facts.{IsPayloadFormat, IsPlanned, AreCarried}
use Rattle.h26x_model.specs.Send.PacketizerState.{PacketizerState, IsPacketizerState, state_plan, state_units}
use Rattle.h26x_model.proofs.FragmentLemmas.{are_fragments, are_marked}
use Rattle.h26x_model.proofs.FewestLemmas.{takes_fewest}
use Rattle.h26x_model.proofs.NumberLemmas.{numbers_are}
use Rattle.h26x_model.proofs.DetectionLemmas.{are_detected}
use Rattle.h26x_model.proofs.SentLemmas.{never_dropped, can_send, entries_of_calls}
use Rattle.h26x_model.proofs.SenderLemmas.{sender_plans}

-- what holds of each element holds of each as something weaker
pub all_weaker : {A : Type 0} (P Q : A → Type 0) → ((x : A) → P x → Q x) → (xs : List A) → AllByRecursion P xs → AllByRecursion Q xs
all_weaker P Q so [] all = tt
all_weaker P Q so (x ∷ xs) (here, later) = (so x here, all_weaker P Q so xs later)

-- it doesn't fit one packet
unfit : (f : Format) (limit : ℕ) (unit : List ℕ) → IsLong f limit unit → fits_one_packet f limit unit ≡ false
unfit f limit unit h = let long = h.long in grind (arith, nat_tests)

-- and is not dropped
kept : (f : Format) (limit : ℕ) (unit : List ℕ) → IsLong f limit unit → is_dropped f limit unit ≡ false
kept f limit unit h = never_dropped f limit unit h.room

-- it has a whole header
long_header : (f : Format) (limit : ℕ) (unit : List ℕ) → IsLong f limit unit → f.header_len ≤ length unit
long_header f limit unit h = let room = h.room in let long = h.long in omega arith

-- its fragments, place by place
long_fragments : (f : Format) (n limit : ℕ) (unit : List ℕ) → IsLong f limit unit → AreFragments f n limit unit
long_fragments f n limit unit h = are_fragments f n limit unit (unfit f limit unit h) (kept f limit unit h) (long_header f limit unit h)

-- each but the last is as long as the limit
long_full : (f : Format) → IsPayloadFormat f → (n limit : ℕ) (unit : List ℕ) → IsLong f limit unit → (j : ℕ) → j + 1 < fragment_count f limit unit →
    length (fragment f n limit unit j) ≡ limit
long_full f ok n limit unit h j more =
    let last = j + 1 == fragment_count f limit unit in
    let full = (long_fragments f n limit unit h).full j more in
    let whole = length-append (f.fragment_header unit (j == 0) last) (fragment_body f n limit unit j) in
    let large = h.room in
    omega (arith, whole, full, ok.whole unit (j == 0) last (long_header f limit unit h))

-- and none is longer
long_within : (f : Format) → IsPayloadFormat f → (n limit : ℕ) (unit : List ℕ) → IsLong f limit unit → (j : ℕ) → length (fragment f n limit unit j) ≤ limit
long_within f ok n limit unit h j =
    let last = j + 1 == fragment_count f limit unit in
    let part = length-take (fragment_room f limit) (drop (j * fragment_room f limit) (fragmented_bytes f n unit)) in
    let whole = length-append (f.fragment_header unit (j == 0) last) (fragment_body f n limit unit j) in
    let large = h.room in
    omega (arith, whole, part, ok.limits.header unit (j == 0) last)

-- a long unit goes in fragments
pub goes_in_fragments : (f : Format) → IsPayloadFormat f → (n limit : ℕ) (unit : List ℕ) → IsLong f limit unit → GoesInFragments f n limit unit
goes_in_fragments f ok n limit unit h = record {
  sent = rw (unfit f limit unit h) refl;
  are = long_fragments f n limit unit h;
  marked = are_marked f ok.marks n limit unit (unfit f limit unit h) (kept f limit unit h) (long_header f limit unit h);
  full = long_full f ok n limit unit h;
  within = long_within f ok n limit unit h;
  fewest = λ rival. takes_fewest f ok.headers limit unit rival (unfit f limit unit h) (kept f limit unit h);
}

-- from the limit on that leaves room behind a fragment's headers and number
pub has_room_from : (f : Format) (least : ℕ) → fragment_header_len f + donl_len f < least → HasRoomFrom f least
has_room_from f least room = record {
  dropped = λ limit unit large. never_dropped f limit unit (omega (arith, room, large));
  long = λ limit unit large long. record { room = omega (arith, room, large); long = long };
}

-- what is planned of calls whose units sent are carried
calls_planned : (s : PacketizerState) (calls : List Call) → IsPayloadFormat s.format → IsPacketizerState s → AreCalls calls →
    AreCarried s.format (state_units s (all_entries s.format calls)) → AllByRecursion (IsPlanned s.format) (state_plan s (all_entries s.format calls))
calls_planned s calls ok is small carried = sender_plans s is ok.sets ok.other (all_entries s.format calls) (entries_of_calls s.format calls small) carried

-- their numbers are in order
pub calls_numbered : (s : PacketizerState) (calls : List Call) → IsPayloadFormat s.format → IsPacketizerState s → AreCalls calls →
    AreCarried s.format (state_units s (all_entries s.format calls)) → DonsInOrder s.format s.next_don (state_plan s (all_entries s.format calls))
calls_numbered s calls ok is small carried =
    let items = state_plan s (all_entries s.format calls) in
    numbers_are s.format ok.reads s.next_don items (can_send s.format ok.reads items (calls_planned s calls ok is small carried))

-- their key units are detected
pub calls_detected : (s : PacketizerState) (calls : List Call) → IsPayloadFormat s.format → IsPacketizerState s → AreCalls calls →
    AreCarried s.format (state_units s (all_entries s.format calls)) → AreDetected s.format s.next_don (state_plan s (all_entries s.format calls))
calls_detected s calls ok is small carried =
    are_detected s.format ok.detects ok.reads s.next_don (state_plan s (all_entries s.format calls)) (calls_planned s calls ok is small carried)
