-- Packetizers that go on from entries to entries.
use Rattle.std.proofs.Common.{◌≡◌, ℕ, ◌+◌, ◌*◌, ◌%◌, ◌<◌, Bool, true, false, cond, List, [], ◌∷◌, ◌++◌, length, length-append, map, take, drop, refl, sym, ap, ◌∙◌, subst, append_assoc, arith}
use Rattle.std.specs.Prelude.{◌==◌}
use Rattle.std.specs.List.{flat_map, AllByRecursion, range_with_len}
use Rattle.std.proofs.lemmas.List.Concat.{flat_map-append}
use Rattle.std.proofs.lemmas.Nat.{mod_below}
use Rattle.std.proofs.Math.Nat.{mod-add-mod, mod-mod}
use Rattle.h26x_core.specs.Word.{word}
use Rattle.h26x_model.specs.Payload.Format.{Format, donl}
use Rattle.h26x_model.specs.Send.Group.{Entry}
use Rattle.h26x_model.specs.Send.Plan.{Item, Alone, Together, fits_one_packet, item_units, plan}
use Rattle.h26x_model.specs.Send.WaitingSets.{WaitingSets, outgoing_items, waiting_after_unit, plan_with_waiting, waiting_after, entries_with_limit, sets_waiting}
use Rattle.h26x_model.specs.Send.Packets.{fragment_room, fragment_count, item_packets, plan_packets}
use Rattle.h26x_model.specs.Send.Limit.{ItemIsWithinLimit}
use Rattle.h26x_model.specs.Payload.Facts.{DonlHasTwoBytes, AreCarried, IsPlanned, FitsLimits, SetsLeaveRoom, KeyUnitsAreOther}
use Rattle.h26x_model.specs.Send.PacketizerState.{PacketizerState, IsPacketizerState, state_plan, state_units, state_packets, don_after, after_entries}
use Rattle.h26x_model.proofs.PacketLemmas.{packets-append}
use Rattle.h26x_model.proofs.LimitLemmas.{all_both, plan_within}
use Rattle.h26x_model.proofs.WaitLemmas.{plan-waiting, sets_stay_all}
use Rattle.h26x_model.proofs.SentLemmas.{IsOfCall, entries_planned, entries_at_of_call}

-- where numbers of a kind give the same bytes, so do the packets numbered on from them
numbered_alike : (f : Format) (R : ℕ → ℕ → Type 0) → ((a b : ℕ) → R a b → donl f a ≡ donl f b) →
    ((a b : ℕ) (sets : List (List ℕ)) (unit : List ℕ) → R a b → f.sets_packet a sets unit ≡ f.sets_packet b sets unit) →
    ((a b k : ℕ) → R a b → R (a + k) (b + k)) →
    (a b : ℕ) (items : List Item) → R a b → plan_packets f a items ≡ plan_packets f b items
numbered_alike f R bytes sets on a b [] r = refl
numbered_alike f R bytes sets on a b (Alone limit unit ∷ items) r =
    ap (λ (x : List ℕ). cond (fits_one_packet f limit unit) (((take f.header_len unit ++ x) ++ drop f.header_len unit) ∷ [])
    (map (λ j. f.fragment_header unit (j == 0) (j + 1 == fragment_count f limit unit) ++ take (fragment_room f limit) (drop (j * fragment_room f limit) (x ++ drop f.header_len unit)))
    (range_with_len 0 (fragment_count f limit unit))) ++ plan_packets f (a + 1) items) (bytes a b r)
    ∙ ap (λ (x : List (List ℕ)). item_packets f b (Alone limit unit) ++ x) (numbered_alike f R bytes sets on (a + 1) (b + 1) items (on a b 1 r))
numbered_alike f R bytes sets on a b (Together limit group unit ∷ items) r =
    ap (λ (x : List ℕ). x ∷ plan_packets f (a + length group) items) (sets a b group unit r)
    ∙ ap (λ (x : List (List ℕ)). f.sets_packet b group unit ∷ x) (numbered_alike f R bytes sets on (a + length group) (b + length group) items (on a b (length group) r))

-- a sum's remainder is by that of its first part
sum_alike : (a b k : ℕ) → a % 65536 ≡ b % 65536 → (a + k) % 65536 ≡ (b + k) % 65536
sum_alike a b k e = sym (mod-add-mod a 65536 k) ∙ ap (λ x. (x + k) % 65536) e ∙ mod-add-mod b 65536 k

-- numbers count by their remainder
pub two_bytes : (f : Format) → DonlHasTwoBytes f → (n : ℕ) (items : List Item) → plan_packets f (n % 65536) items ≡ plan_packets f n items
two_bytes f facts n items = numbered_alike f (λ a b. a % 65536 ≡ b % 65536)
    (λ a b e. ap (λ x. cond f.has_donl (word x) []) e)
    (λ a b sets unit e. sym (facts.sets a sets unit) ∙ ap (λ x. f.sets_packet x sets unit) e ∙ facts.sets b sets unit)
    (λ a b k e. sum_alike a b k e)
    (n % 65536) n items (mod-mod n 65536)

-- without numbers they don't count at all
pub no_numbers : (f : Format) → DonlHasTwoBytes f → f.has_donl ≡ false → (n m : ℕ) (items : List Item) → plan_packets f n items ≡ plan_packets f m items
no_numbers f facts none n m items = numbered_alike f (λ a b. Unit {0})
    (λ a b e. rw none refl)
    (λ a b sets unit e. facts.none none a b sets unit)
    (λ a b k e. tt)
    n m items tt

-- plans of entries that follow others
pub plan_with-append : (f : Format) (w : WaitingSets) (a b : List Entry) → plan_with_waiting f w (a ++ b) ≡ plan_with_waiting f w a ++ plan_with_waiting f (waiting_after f w a) b
plan_with-append f w [] b = refl
plan_with-append f w (e ∷ a) b =
    ap (λ (x : List Item). outgoing_items f w e ++ x) (plan_with-append f (waiting_after_unit f w e.unit) a b)
    ∙ sym (append_assoc (outgoing_items f w e) (plan_with_waiting f (waiting_after_unit f w e.unit) a) (plan_with_waiting f (waiting_after f (waiting_after_unit f w e.unit) a) b))

-- what waits after both
pub waits_after_all-append : (f : Format) (w : WaitingSets) (a b : List Entry) → waiting_after f w (a ++ b) ≡ waiting_after f (waiting_after f w a) b
waits_after_all-append f w [] b = refl
waits_after_all-append f w (e ∷ a) b = waits_after_all-append f (waiting_after_unit f w e.unit) a b

-- what is sent of both
pub sent_by-append : (s : PacketizerState) (a b : List Entry) → state_units s (a ++ b) ≡ state_units s a ++ state_units (after_entries s a) b
sent_by-append s a b = ap (flat_map item_units) (plan_with-append s.format s.waiting a b) ∙ flat_map-append item_units (state_plan s a) (state_plan (after_entries s a) b)

-- packets that are numbered on from a counter
counter_alike : (f : Format) → DonlHasTwoBytes f → (n k : ℕ) (items : List Item) → plan_packets f (n + k) items ≡ plan_packets f (don_after f.has_donl n k) items
counter_alike f facts n k items = elim f.has_donl as (λ b. f.has_donl ≡ b → plan_packets f (n + k) items ≡ plan_packets f (cond b ((n + k) % 65536) n) items) [
  | true ↦ λ _. sym (two_bytes f facts (n + k) items)
  | false ↦ λ none. no_numbers f facts none (n + k) n items
] refl

-- their packets
pub packets_by-append : (s : PacketizerState) → DonlHasTwoBytes s.format → (a b : List Entry) → state_packets s (a ++ b) ≡ state_packets s a ++ state_packets (after_entries s a) b
packets_by-append s facts a b =
    ap (plan_packets s.format s.next_don) (plan_with-append s.format s.waiting a b)
    ∙ packets-append s.format s.next_don (state_plan s a) (state_plan (after_entries s a) b)
    ∙ ap (λ (x : List (List ℕ)). state_packets s a ++ x) (counter_alike s.format facts s.next_don (length (state_units s a)) (state_plan (after_entries s a) b))

-- a counter that goes on twice
counted_twice : (has_donl : Bool) (n k l : ℕ) → don_after has_donl n (k + l) ≡ don_after has_donl (don_after has_donl n k) l
counted_twice true n k l =
    let same : n + (k + l) ≡ (n + k) + l = omega arith in
    ap (λ x. x % 65536) same ∙ sym (mod-add-mod (n + k) 65536 l)
counted_twice false n k l = refl

-- the packetizer after both
pub after-append : (s : PacketizerState) (a b : List Entry) → after_entries s (a ++ b) ≡ after_entries (after_entries s a) b
after-append s a b =
    let count : length (state_units s (a ++ b)) ≡ length (state_units s a) + length (state_units (after_entries s a) b) =
    ap length (sent_by-append s a b) ∙ length-append (state_units s a) (state_units (after_entries s a) b) in
    let next_don : don_after s.format.has_donl s.next_don (length (state_units s (a ++ b))) ≡ (after_entries (after_entries s a) b).next_don =
    ap (don_after s.format.has_donl s.next_don) count ∙ counted_twice s.format.has_donl s.next_don (length (state_units s a)) (length (state_units (after_entries s a) b)) in
    ap (λ (w : WaitingSets). record { format = s.format; waiting = w; next_don = don_after s.format.has_donl s.next_don (length (state_units s (a ++ b))); max_packet_size = s.max_packet_size }) (waits_after_all-append s.format s.waiting a b)
    ∙ ap (λ (n : ℕ). record { format = s.format; waiting = waiting_after s.format (waiting_after s.format s.waiting a) b; next_don = n; max_packet_size = s.max_packet_size }) next_don

-- it is one again
pub still_sender : (s : PacketizerState) (entries : List Entry) → IsPacketizerState s → IsPacketizerState (after_entries s entries)
still_sender s entries is = record {
  sets = sets_stay_all s.format s.waiting entries is.sets;
  small = elim s.format.has_donl as (λ b. cond b ((s.next_don + length (state_units s entries)) % 65536) s.next_don < 65536) [
    | true ↦ mod_below (s.next_don + length (state_units s entries)) 65536 (omega arith)
    | false ↦ is.small
  ];
  size = is.size;
}

-- what it sends is what is planned of its sets and the entries
pub as_plan : (s : PacketizerState) (entries : List Entry) → IsPacketizerState s → (limit : ℕ) → plan s.format (entries_with_limit limit (sets_waiting s.waiting) ++ entries) ≡ state_plan s entries
as_plan s entries is limit = plan-waiting s.format limit s.waiting entries is.sets

-- what is planned of units that are carried
pub sender_plans : (s : PacketizerState) → IsPacketizerState s → SetsLeaveRoom s.format → KeyUnitsAreOther s.format → (entries : List Entry) →
    AllByRecursion (IsOfCall s.format) entries → AreCarried s.format (state_units s entries) → AllByRecursion (IsPlanned s.format) (state_plan s entries)
sender_plans s is roomy keys entries limits carried =
    let same = as_plan s entries is 0 in
    let first = entries_with_limit 0 (sets_waiting s.waiting) in
    subst (AllByRecursion (IsPlanned s.format)) same (
    entries_planned s.format roomy keys (first ++ entries)
    (all_both (IsOfCall s.format) first entries (entries_at_of_call s.format 0 (λ has_max_packet_size. omega arith) (sets_waiting s.waiting)) limits)
    (subst (λ (items : List Item). AreCarried s.format (flat_map item_units items)) (sym same) carried))

-- each item's packets are within its limit
pub sender_within : (s : PacketizerState) → IsPacketizerState s → FitsLimits s.format → (entries : List Entry) → AllByRecursion (ItemIsWithinLimit s.format) (state_plan s entries)
sender_within s is ok entries = subst (AllByRecursion (ItemIsWithinLimit s.format)) (as_plan s entries is 0)
    (plan_within s.format ok (entries_with_limit 0 (sets_waiting s.waiting) ++ entries))
