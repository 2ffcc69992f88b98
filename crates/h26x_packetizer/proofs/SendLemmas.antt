-- Items that are sent one after the other, for every format.
use Rattle.std.proofs.Common.{◌≡◌, ℕ, ◌+◌, ◌%◌, true, ◌<◌, List, [], ◌∷◌, ◌++◌, length, length-append, refl, sym, ap, ◌∙◌, append_assoc, arith}
use Rattle.std.specs.Prelude.{Result, Ok, Err, IfOk}
use Rattle.std.specs.List.{flat_map}
use Rattle.std.proofs.lemmas.List.{append-nil}
use Rattle.std.proofs.lemmas.List.Concat.{flat_map-append}
use Rattle.h26x_model.specs.Payload.Format.{Format}
use Rattle.h26x_model.specs.Send.Plan.{Item, item_units}
use Rattle.h26x_model.specs.Send.Packets.{plan_packets}
use Rattle.h26x_model.proofs.PacketLemmas.{packets-append}
use Rattle.h26x_cut.specs.declared.ZeroRule.{ZeroRule}
use Rattle.h26x_cut.specs.Cutting.{AreUnits, units_of, units_of_segments}
use Rattle.h26x_cut.proofs.CuttingLemmas.{cutting_is}
use Rattle.h26x_core.specs.Pieces.{piece}
use Rattle.h26x_model.specs.Send.WaitingSets.{WaitingSets, waiting_after_unit, outgoing_items, plan_with_waiting, waiting_after, entries_with_limit}
use Rattle.h26x_payload.specs.Sets.{sets_behind_lengths}
use Rattle.h26x_packetizer.specs.Sending.{ArePushed, unit_count}
use Rattle.h26x_model.specs.Send.PacketizerState.{is_skipped, are_skipped}
use Rattle.std.proofs.lemmas.Bool.{and_parts}

-- numbers count by their two bytes, as the law of all formats has it
abbrev pub CountsByTwoBytes : Format → Type 0
CountsByTwoBytes f = (n : ℕ) (items : List Item) → plan_packets f (n % 65536) items ≡ plan_packets f n items

-- nothing is sent
pub sends_none : (f : Format) (n : ℕ) (x : List (List ℕ)) → n < 65536 → ArePushed f n [] x x n
sends_none f n x small = record { made = sym (append-nil x); don = omega arith }

-- items are sent, and then others
pub sends_then : (f : Format) → CountsByTwoBytes f → (n m k : ℕ) (a b : List Item) (x y z : List (List ℕ)) → ArePushed f n a x y m → ArePushed f m b y z k → ArePushed f n (a ++ b) x z k
sends_then f bytes n m k a b x y z first second =
    let next = n + unit_count a in
    let count : unit_count (a ++ b) ≡ unit_count a + unit_count b = ap length (flat_map-append item_units a b) ∙ length-append _ _ in
    let is = first.don in
    let goes_on : plan_packets f m b ≡ plan_packets f next b = ap (λ k. plan_packets f k b) is ∙ bytes next b in
    let e = second.don in
    record {
      made = second.made ∙ rw (first.made, goes_on) (append_assoc x (plan_packets f n a) (plan_packets f next b) ∙ ap (λ (l : List (List ℕ)). x ++ l) (sym (packets-append f n a b)));
      don = omega (arith, e, is, count);
    }

-- the same where the second may fail
pub sends_ok : {E : Type 0} (f : Format) → CountsByTwoBytes f → (n m : ℕ) (a b all : List Item) (x y z : List (List ℕ)) (r : Result ℕ E) → all ≡ a ++ b → ArePushed f n a x y m →
    IfOk r (λ k. ArePushed f m b y z k) → IfOk r (λ k. ArePushed f n all x z k)
sends_ok f bytes n m a b all x y z (Ok k) is first second = rw is (sends_then f bytes n m k a b x y z first second)
sends_ok f bytes n m a b all x y z (Err e) is first second = tt

-- one unit is sent, and then those behind it
pub sends_unit : (f : Format) → CountsByTwoBytes f → (w later : WaitingSets) (limit n m k : ℕ) (unit : List ℕ) (rest units : List (List ℕ)) (outgoing : List Item) (x y z : List (List ℕ)) → rest ≡ unit ∷ units →
    outgoing ≡ outgoing_items f w (record { unit = unit; limit = limit }) → later ≡ waiting_after_unit f w unit → ArePushed f n outgoing x y m →
    ArePushed f m (plan_with_waiting f later (entries_with_limit limit units)) y z k → ArePushed f n (plan_with_waiting f w (entries_with_limit limit rest)) x z k
sends_unit f bytes w later limit n m k unit rest units outgoing x y z is now then_ here behind =
    let all : plan_with_waiting f w (entries_with_limit limit rest) ≡ outgoing ++ plan_with_waiting f later (entries_with_limit limit units) =
    ap (λ (r : List (List ℕ)). plan_with_waiting f w (entries_with_limit limit r)) is ∙ rw (now, then_) refl in
    rw all (sends_then f bytes n m k outgoing (plan_with_waiting f later (entries_with_limit limit units)) x y z here behind)

-- no unit is left
pub sends_end : (f : Format) (w : WaitingSets) (limit n : ℕ) (rest x : List (List ℕ)) → n < 65536 → rest ≡ [] → ArePushed f n (plan_with_waiting f w (entries_with_limit limit rest)) x x n
sends_end f w limit n rest x small none = rw none (sends_none f n x small)

-- and the sets that wait go on
pub waits_more : (f : Format) (w later after : WaitingSets) (limit : ℕ) (unit : List ℕ) (rest units : List (List ℕ)) → rest ≡ unit ∷ units → later ≡ waiting_after_unit f w unit →
    waiting_after f w (entries_with_limit limit rest) ≡ after → waiting_after f later (entries_with_limit limit units) ≡ after
waits_more f w later after limit unit rest units is then_ so_far = rw then_ (ap (λ (r : List (List ℕ)). waiting_after f w (entries_with_limit limit r)) (sym is) ∙ so_far)

-- of skipped units the first is, and the others are
pub skipped_more : (f : Format) (unit : List ℕ) (rest units : List (List ℕ)) → rest ≡ unit ∷ units → are_skipped f rest ≡ true → (is_skipped (f.kind unit) ≡ true) × (are_skipped f units ≡ true)
skipped_more f unit rest units is all = and_parts (is_skipped (f.kind unit)) (are_skipped f units) (ap (are_skipped f) (sym is) ∙ all)

-- a payload's units are those that are computed
pub units_are : (rule : ZeroRule) (payload : List ℕ) (units : List (List ℕ)) → AreUnits rule payload units → units ≡ units_of rule payload
units_are rule payload units (segments, cut, same) = same ∙ ap units_of_segments (cutting_is rule payload segments cut)

-- sets with nothing more between them are the sets behind their lengths
pub no_gap : (sets : List (List ℕ)) → sets_behind_lengths [] sets ≡ flat_map piece sets
no_gap [] = refl
no_gap (set ∷ sets) = refl
