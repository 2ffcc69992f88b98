-- Where the open run is given up at each packet that is missing, nothing is written but whole items.
use Rattle.std.proofs.Common.{◌≡◌, ℕ, zero, suc, ◌+◌, ◌-◌, ◌*◌, ◌<◌, ◌≤◌, Bool, true, false, cond, eqb, List, [], ◌∷◌, ◌++◌, length, length-append, map, take, drop, Option, Some, None, refl, sym, ap, ◌∙◌, subst, append_assoc, arith, eq-eqb}
use Rattle.std.specs.Prelude.{IsTrue, nat_lt, nat_le, ◌&&◌, ◌||◌}
use Rattle.std.proofs.Math.Nat.{mul-le-mul_right}
use Rattle.std.specs.List.{flat_map, list_all, AllByRecursion}
use Rattle.std.proofs.lemmas.List.{append-nil, length-take, length-drop}
use Rattle.std.proofs.lemmas.List.Concat.{flat_map-append}
use Rattle.std.proofs.lemmas.List.FromFn.{length-map-range_with_len}
use Rattle.std.proofs.lemmas.Bool.Decides.{nat_tests}
use Rattle.h26x_model.specs.Payload.Reading.{Reading, Single, Aggregate, Fragment, Paci, Refused}
use Rattle.h26x_model.specs.Payload.Format.{Format, donl_len}
use Rattle.h26x_model.specs.Send.Calls.{Call, AreCalls, all_entries}
use Rattle.h26x_model.specs.Send.Plan.{Item, Alone, Together, fits_one_packet, item_units}
use Rattle.h26x_model.specs.Send.Packets.{single_packet, fragment, fragment_body, fragments, fragment_count, fragmented_bytes, fragment_room, item_packets, plan_packets}
use Rattle.h26x_core.specs.ByteStream.{unit_prefix, byte_stream}
use Rattle.h26x_model.specs.Payload.Extra.{extra_after}
use Rattle.h26x_model.specs.Receive.Received.{extended_run, run_after, reading_units}
use Rattle.h26x_model.specs.Payload.Facts.{ReadsWhatItWrites, HeadersTakeRoom, ExtraTells, CanSend, IsPayloadFormat, AreCarried}
use Rattle.h26x_model.specs.Send.PacketizerState.{PacketizerState, IsPacketizerState, state_plan, state_units, state_packets}
use Rattle.h26x_model.specs.Receive.DepacketizerState.{Depacketization, after_packets}
use Rattle.h26x_model.specs.Receive.RunLimit.{run_len, run_within, without_open_run, with_run_within}
use Rattle.h26x_model.specs.Carry.Gaps.{after_kept_packets, run_may_hold, whole_items, whole_units, WritesWholeUnits}
use Rattle.h26x_model.proofs.ExtraLemmas.{extra_more}
use Rattle.h26x_model.proofs.SentLemmas.{can_send, entries_of_calls}
use Rattle.h26x_model.proofs.SenderLemmas.{sender_plans}
use Rattle.h26x_model.proofs.ReadBackLemmas.{Bounds, later_read, first_read, place_below, bounds, data_before, parts, places_grow, next_place, whole_unit}
use Rattle.h26x_model.proofs.LossLemmas.{fragments_at, numbered_back}

-- what the kept readings bring, where the run is given up at each that is missing, and where it is too long
abbrev pub kept_units : ℕ → Option (List ℕ) → List Bool → List Reading → List (List ℕ)
kept_units most run (true ∷ mask) (r ∷ readings) = reading_units run r ++ kept_units most (run_within most (run_after run r)) mask readings
kept_units most run (false ∷ mask) (r ∷ readings) = kept_units most None mask readings
kept_units most run mask readings = []

-- the run that is open after them
abbrev run_after_kept : ℕ → Option (List ℕ) → List Bool → List Reading → Option (List ℕ)
run_after_kept most run (true ∷ mask) (r ∷ readings) = run_after_kept most (run_within most (run_after run r)) mask readings
run_after_kept most run (false ∷ mask) (r ∷ readings) = run_after_kept most None mask readings
run_after_kept most run mask readings = run

-- what is written and told of units behind others
abbrev pub AreBehind : Depacketization → Depacketization → List (List ℕ) → Type 0
AreBehind w new units = (new.out ≡ w.out ++ byte_stream w.state.is_avc units) × (new.extra ≡ extra_after w.state.format w.extra units)

-- no units
none_behind : (w : Depacketization) → AreBehind w w []
none_behind w = (sym (append-nil w.out), refl)

-- what is written and told are these units
pub written_is : (most : ℕ) (w : Depacketization) (mask : List Bool) (packets : List (List ℕ)) → ExtraTells w.state.format →
    AreBehind w (after_kept_packets most w mask packets) (kept_units most w.state.run mask (map w.state.format.read packets))
written_is most w [] packets tells = none_behind w
written_is most w (true ∷ mask) [] tells = none_behind w
written_is most w (false ∷ mask) [] tells = none_behind w
written_is most w (false ∷ mask) (packet ∷ packets) tells = written_is most (without_open_run w) mask packets tells
written_is most w (true ∷ mask) (packet ∷ packets) tells =
    let r = w.state.format.read packet in
    let us = reading_units w.state.run r in
    let next = with_run_within most (after_packets w (packet ∷ [])) in
    let vs = kept_units most next.state.run mask (map w.state.format.read packets) in
    let later = written_is most next mask packets tells in
    let one : us ++ [] ≡ us = append-nil us in (
      later.0 ∙ append_assoc w.out (byte_stream w.state.is_avc (us ++ [])) (byte_stream w.state.is_avc vs)
          ∙ ap (λ (x : List (List ℕ)). w.out ++ (byte_stream w.state.is_avc x ++ byte_stream w.state.is_avc vs)) one
          ∙ ap (λ (x : List ℕ). w.out ++ x) (sym (flat_map-append (λ (unit : List ℕ). unit_prefix w.state.is_avc unit ++ unit) us vs)),
      later.1 ∙ ap (λ (x : List (List ℕ)). extra_after w.state.format (extra_after w.state.format w.extra x) vs) one
          ∙ extra_more w.state.format tells w.extra us vs,
    )

-- what packets bring, and others behind them
over_parts : (f : Format) (most : ℕ) (run : Option (List ℕ)) (mask : List Bool) (a b : List (List ℕ)) → length a ≤ length mask →
    kept_units most run mask (map f.read (a ++ b)) ≡ kept_units most run (take (length a) mask) (map f.read a)
    ++ kept_units most (run_after_kept most run (take (length a) mask) (map f.read a)) (drop (length a) mask) (map f.read b)
over_parts f most run mask [] b long = refl
over_parts f most run [] (x ∷ a) b long = absurd (omega arith)
over_parts f most run (false ∷ mask) (x ∷ a) b long = over_parts f most None mask a b (omega arith)
over_parts f most run (true ∷ mask) (x ∷ a) b long =
    let next = run_within most (run_after run (f.read x)) in
    ap (λ (us : List (List ℕ)). reading_units run (f.read x) ++ us) (over_parts f most next mask a b (omega arith))
    ∙ sym (append_assoc (reading_units run (f.read x)) (kept_units most next (take (length a) mask) (map f.read a))
    (kept_units most (run_after_kept most next (take (length a) mask) (map f.read a)) (drop (length a) mask) (map f.read b)))

-- a fragment that doesn't start brings nothing where no run is open, and opens none
startless : (most : ℕ) (end : Bool) (head body : List ℕ) (mask : List Bool) (readings : List Reading) →
    kept_units most None (true ∷ mask) (Fragment false end head None body ∷ readings) ≡ kept_units most None mask readings
startless most true head body mask readings = refl
startless most false head body mask readings = refl

-- fragments behind one that is missing bring nothing
none_over : (f : Format) (most n limit : ℕ) (unit : List ℕ) (j count : ℕ) (mask : List Bool) → ReadsWhatItWrites f → IsTrue (f.carries unit) →
    Bounds f n limit unit → 0 < j → j + count ≡ fragment_count f limit unit →
    kept_units most None mask (map f.read (fragments_at f n limit unit j count)) ≡ []
none_over f most n limit unit j zero [] sound carried b pos is = refl
none_over f most n limit unit j zero (true ∷ mask) sound carried b pos is = refl
none_over f most n limit unit j zero (false ∷ mask) sound carried b pos is = refl
none_over f most n limit unit j (suc m) [] sound carried b pos is = refl
none_over f most n limit unit j (suc m) (false ∷ mask) sound carried b pos is = none_over f most n limit unit (j + 1) m mask sound carried b (omega arith) (omega arith)
none_over f most n limit unit j (suc m) (true ∷ mask) sound carried b pos is =
    let at = place_below j (fragment_count f limit unit) (fragment_room f limit) (length (fragmented_bytes f n unit)) (omega arith) b.lower in
    let last = eqb (j + 1) (fragment_count f limit unit) in
    rw (later_read f n limit unit j sound carried pos (omega arith) at)
    (startless most last (take f.header_len unit) (fragment_body f n limit unit j) mask (map f.read (fragments_at f n limit unit (j + 1) m))
    ∙ none_over f most n limit unit (j + 1) m mask sound carried b (omega arith) (omega arith))

-- a run that is not too long stays, and one that is too long is given up
stays_within : (most : ℕ) (run : List ℕ) → nat_lt most (length run) ≡ false → run_within most (Some run) ≡ Some run
stays_within most run short = rw short refl

given_up_past : (most : ℕ) (run : List ℕ) → nat_lt most (length run) ≡ true → run_within most (Some run) ≡ None
given_up_past most run long = rw long refl

-- how many bytes the data before a fragment are
data_long : (f : Format) (n limit : ℕ) (unit : List ℕ) (j : ℕ) → j * fragment_room f limit < length (fragmented_bytes f n unit) →
    length (data_before f n limit unit j) ≡ j * fragment_room f limit - donl_len f
data_long f n limit unit j below =
    let front = length-take (j * fragment_room f limit) (fragmented_bytes f n unit) in
    let left = length-drop (donl_len f) (take (j * fragment_room f limit) (fragmented_bytes f n unit)) in
    omega (arith, front, left, below)

-- whether a run may hold the data of all fragments but the last
abbrev held : Format → ℕ → ℕ → List ℕ → Bool
held f most limit unit = nat_le ((fragment_count f limit unit - 1) * fragment_room f limit - donl_len f) most

-- data before a fragment that are too long are too long before the last
too_long : (f : Format) (most limit : ℕ) (unit : List ℕ) (j : ℕ) → j ≤ fragment_count f limit unit - 1 → most < j * fragment_room f limit - donl_len f → held f most limit unit ≡ false
too_long f most limit unit j le long =
    let m = mul-le-mul_right (fragment_room f limit) le in
    let over : most < (fragment_count f limit unit - 1) * fragment_room f limit - donl_len f = omega (arith, m, long) in
    grind (arith, nat_tests)

-- a test that holds, or a result that doesn't depend on it
when_held : (all held : Bool) (unit : List ℕ) → held ≡ true → cond all (unit ∷ []) [] ≡ cond (all && held) (unit ∷ []) []
when_held true held unit h = rw h refl
when_held false held unit h = refl

when_not : (all held : Bool) (unit : List ℕ) → held ≡ false → [] ≡ cond (all && held) (unit ∷ []) []
when_not true held unit h = rw h refl
when_not false held unit h = refl

-- fragments behind a run that is measured, where what they bring is known if it is not too long
measured : (f : Format) (most n limit : ℕ) (unit : List ℕ) (j m : ℕ) (mask : List Bool) → ReadsWhatItWrites f → IsTrue (f.carries unit) →
    Bounds f n limit unit → 0 < j → j + suc m ≡ fragment_count f limit unit → length (data_before f n limit unit j) ≡ j * fragment_room f limit - donl_len f →
    (length (data_before f n limit unit j) ≤ most → kept_units most (Some (data_before f n limit unit j)) mask (map f.read (fragments_at f n limit unit j (suc m)))
    ≡ cond (list_all (λ b. b) mask && held f most limit unit) (unit ∷ []) []) →
    kept_units most (run_within most (Some (data_before f n limit unit j))) mask (map f.read (fragments_at f n limit unit j (suc m)))
    ≡ cond (list_all (λ b. b) mask && held f most limit unit) (unit ∷ []) []
measured f most n limit unit j m mask sound carried b pos count size fine =
    let run = data_before f n limit unit j in
    let rest = map f.read (fragments_at f n limit unit j (suc m)) in
    elim (nat_lt most (length run)) as (λ t. nat_lt most (length run) ≡ t →
    kept_units most (run_within most (Some run)) mask rest ≡ cond (list_all (λ b. b) mask && held f most limit unit) (unit ∷ []) []) [
      | true ↦ λ e.
          let long : most < length run = grind (arith, nat_tests) in
          ap (λ (x : Option (List ℕ)). kept_units most x mask rest) (given_up_past most run e)
          ∙ none_over f most n limit unit j (suc m) mask sound carried b pos count
          ∙ when_not (list_all (λ b. b) mask) (held f most limit unit) unit (too_long f most limit unit j (omega arith) (omega arith))
      | false ↦ λ e.
          let short : length run ≤ most = grind (arith, nat_tests) in
          ap (λ (x : Option (List ℕ)). kept_units most x mask rest) (stays_within most run e) ∙ fine short
    ] refl

-- the fragments from place j on, where the data before them are the open run, bring the unit if none is missing and a run may hold it
rest_over : (f : Format) (most n limit : ℕ) (unit : List ℕ) (j m : ℕ) (mask : List Bool) → ReadsWhatItWrites f → IsTrue (f.carries unit) →
    Bounds f n limit unit → length (data_before f n limit unit j) ≤ most → 0 < j → j + suc m ≡ fragment_count f limit unit → length mask ≡ suc m →
    kept_units most (Some (data_before f n limit unit j)) mask (map f.read (fragments_at f n limit unit j (suc m)))
    ≡ cond (list_all (λ b. b) mask && held f most limit unit) (unit ∷ []) []
rest_over f most n limit unit j m [] sound carried b short pos count long = absurd (omega arith)
rest_over f most n limit unit j m (false ∷ mask) sound carried b short pos count long = none_over f most n limit unit (j + 1) m mask sound carried b (omega arith) (omega arith)
rest_over f most n limit unit j zero (true ∷ x ∷ mask) sound carried b short pos count long = absurd (omega arith)
rest_over f most n limit unit j zero (true ∷ []) sound carried b short pos count long =
    let last : eqb (j + 1) (fragment_count f limit unit) ≡ true = eq-eqb (j + 1) (fragment_count f limit unit) (omega arith) in
    let at = place_below j (fragment_count f limit unit) (fragment_room f limit) (length (fragmented_bytes f n unit)) (omega arith) b.lower in
    let here : fragment_count f limit unit - 1 ≡ j = omega arith in
    let size = data_long f n limit unit j at in
    let may : held f most limit unit ≡ true =
    ap (λ k. nat_le (k * fragment_room f limit - donl_len f) most) here ∙ (let h : j * fragment_room f limit - donl_len f ≤ most = omega (arith, size, short) in grind (arith, nat_tests)) in
    rw (later_read f n limit unit j sound carried pos (omega arith) at, last)
    (ap (λ (x : List ℕ). x ∷ []) (whole_unit f n limit unit j b carried pos (omega arith)) ∙ when_held true (held f most limit unit) unit may)
rest_over f most n limit unit j (suc m) (true ∷ mask) sound carried b short pos count long =
    let c = fragment_room f limit in
    let more : eqb (j + 1) (fragment_count f limit unit) ≡ false = grind (arith, nat_tests) in
    let at = place_below j (fragment_count f limit unit) c (length (fragmented_bytes f n unit)) (omega arith) b.lower in
    let at_next = place_below (j + 1) (fragment_count f limit unit) c (length (fragmented_bytes f n unit)) (omega arith) b.lower in
    let grown = places_grow j c pos in
    let next : data_before f n limit unit j ++ fragment_body f n limit unit j ≡ data_before f n limit unit (j + 1) =
    parts (donl_len f) c (j * c) (fragmented_bytes f n unit) (omega (arith, grown, b.large)) (omega (arith, b.some))
    ∙ ap (λ k. drop (donl_len f) (take k (fragmented_bytes f n unit))) (sym (next_place j c)) in
    let size = data_long f n limit unit (j + 1) at_next in
    let data_next = data_before f n limit unit (j + 1) in
    let rest = map f.read (fragments_at f n limit unit (j + 1) (suc m)) in
    rw (later_read f n limit unit j sound carried pos (omega arith) at, more)
    (ap (λ (x : List ℕ). kept_units most (run_within most (Some x)) mask rest) next
    ∙ measured f most n limit unit (j + 1) m mask sound carried b (omega arith) (omega arith) size
    (λ fine. rest_over f most n limit unit (j + 1) m mask sound carried b fine (omega arith) (omega arith) (omega arith)))

-- all fragments of a unit, of which there are at least two, bring it if none is missing and a run may hold it, whatever run was open
fragments_over : (f : Format) (most n limit : ℕ) (unit : List ℕ) (run : Option (List ℕ)) (m : ℕ) (mask : List Bool) → ReadsWhatItWrites f → IsTrue (f.carries unit) →
    Bounds f n limit unit → suc (suc m) ≡ fragment_count f limit unit → length mask ≡ suc (suc m) →
    kept_units most run mask (map f.read (fragments_at f n limit unit 0 (suc (suc m)))) ≡ cond (list_all (λ b. b) mask && held f most limit unit) (unit ∷ []) []
fragments_over f most n limit unit run m [] sound carried b count long = absurd (omega arith)
fragments_over f most n limit unit run m (false ∷ mask) sound carried b count long = none_over f most n limit unit 1 (suc m) mask sound carried b (omega arith) (omega arith)
fragments_over f most n limit unit run m (true ∷ mask) sound carried b count long =
    let more : eqb 1 (fragment_count f limit unit) ≡ false = grind (arith, nat_tests) in
    let one : fragment_room f limit ≡ 1 * fragment_room f limit = omega arith in
    let at = place_below 1 (fragment_count f limit unit) (fragment_room f limit) (length (fragmented_bytes f n unit)) (omega arith) b.lower in
    let size = data_long f n limit unit 1 at in
    let rest = map f.read (fragments_at f n limit unit 1 (suc m)) in
    rw (first_read f n limit unit sound carried b.large b.some, more)
    (ap (λ k. kept_units most (run_within most (Some (drop (donl_len f) (take k (fragmented_bytes f n unit))))) mask rest) one
    ∙ measured f most n limit unit 1 m mask sound carried b (omega arith) (omega arith) size
    (λ fine. rest_over f most n limit unit 1 m mask sound carried b fine (omega arith) (omega arith) (omega arith)))

-- an item of one packet brings its units if it is there
one_over : (f : Format) (most n : ℕ) (item : Item) (packet : List ℕ) (run : Option (List ℕ)) (mask : List Bool) →
    item_packets f n item ≡ packet ∷ [] → reading_units run (f.read packet) ≡ item_units item → length mask ≡ 1 →
    kept_units most run mask (map f.read (item_packets f n item)) ≡ cond (list_all (λ b. b) mask) (item_units item) []
one_over f most n item packet run [] one units long = absurd (omega arith)
one_over f most n item packet run (x ∷ y ∷ mask) one units long = absurd (omega arith)
one_over f most n item packet run (true ∷ []) one units long = rw one (append-nil (reading_units run (f.read packet)) ∙ units)
one_over f most n item packet run (false ∷ []) one units long = rw one refl

-- an item of one packet is held
when_one : (all : Bool) (units : List (List ℕ)) (held : Bool) → held ≡ true → cond all units [] ≡ cond (all && held) units []
when_one true units held h = rw h refl
when_one false units held h = refl

-- an item brings its units if none of its packets is missing and a run may hold it, whatever run was open
item_over : (f : Format) (most n : ℕ) (item : Item) (run : Option (List ℕ)) (mask : List Bool) → ReadsWhatItWrites f → CanSend f item →
    length mask ≡ length (item_packets f n item) →
    kept_units most run mask (map f.read (item_packets f n item)) ≡ cond (list_all (λ b. b) mask && run_may_hold f most item) (item_units item) []
item_over f most n (Together limit sets unit) run mask sound send long =
    one_over f most n (Together limit sets unit) (f.sets_packet n sets unit) run mask refl
    (ap (λ r. reading_units run r) (send n) ∙ numbered_back f n sets) long ∙ when_one (list_all (λ b. b) mask) sets true refl
item_over f most n (Alone limit unit) run mask sound send long =
    elim (fits_one_packet f limit unit) as (λ b. fits_one_packet f limit unit ≡ b →
    kept_units most run mask (map f.read (item_packets f n (Alone limit unit))) ≡ cond (list_all (λ b. b) mask && (b || held f most limit unit)) (unit ∷ []) []) [
      | true ↦ λ e.
          let one : item_packets f n (Alone limit unit) ≡ single_packet f n unit ∷ [] = rw e refl in
          one_over f most n (Alone limit unit) (single_packet f n unit) run mask one
          (ap (λ r. reading_units run r) (sound.single n unit send.0)) (long ∙ ap length one) ∙ when_one (list_all (λ b. b) mask) (unit ∷ []) true refl
      | false ↦ λ e.
          let all : item_packets f n (Alone limit unit) ≡ fragments f n limit unit = rw e refl in
          let total = length-map-range_with_len (fragment f n limit unit) 0 (fragment_count f limit unit) in
          let b = bounds f n limit unit e send.1 (sound.header unit send.0) in
          let count : suc (suc (fragment_count f limit unit - 2)) ≡ fragment_count f limit unit = omega (arith, b.1) in
          let same : item_packets f n (Alone limit unit) ≡ fragments_at f n limit unit 0 (suc (suc (fragment_count f limit unit - 2))) =
          all ∙ ap (fragments_at f n limit unit 0) (sym count) in
          ap (λ (ps : List (List ℕ)). kept_units most run mask (map f.read ps)) same
          ∙ fragments_over f most n limit unit run (fragment_count f limit unit - 2) mask sound send.0 b.0 count
          (long ∙ ap length all ∙ total ∙ sym count)
    ] refl

-- the units of an item that is there, or not, and of others
units_of_first : (c : Bool) (item : Item) (items : List Item) →
    flat_map item_units (cond c (item ∷ []) [] ++ items) ≡ cond c (item_units item) [] ++ flat_map item_units items
units_of_first true item items = refl
units_of_first false item items = refl

-- items bring the units of those of which no packet is missing, and that a run may hold
items_over : (f : Format) (most n : ℕ) (items : List Item) (run : Option (List ℕ)) (mask : List Bool) → ReadsWhatItWrites f → AllByRecursion (CanSend f) items →
    length mask ≡ length (plan_packets f n items) →
    kept_units most run mask (map f.read (plan_packets f n items)) ≡ flat_map item_units (whole_items f most n items mask)
items_over f most n [] run [] sound send long = refl
items_over f most n [] run (x ∷ mask) sound send long = absurd (omega arith)
items_over f most n (item ∷ items) run mask sound send long =
    let here = item_packets f n item in
    let next = n + length (item_units item) in
    let later = plan_packets f next items in
    let both = length-append here later in
    let t = length-take (length here) mask in
    let d = length-drop (length here) mask in
    let first : length (take (length here) mask) ≡ length here = omega (arith, long, both, t) in
    let rest : length (drop (length here) mask) ≡ length later = omega (arith, long, both, d) in
    let after = run_after_kept most run (take (length here) mask) (map f.read here) in
    let whole = list_all (λ b. b) (take (length here) mask) && run_may_hold f most item in
    over_parts f most run mask here later (omega (arith, long, both))
    ∙ ap (λ (us : List (List ℕ)). us ++ kept_units most after (drop (length here) mask) (map f.read later))
    (item_over f most n item run (take (length here) mask) sound send.0 first)
    ∙ ap (λ (us : List (List ℕ)). cond whole (item_units item) [] ++ us) (items_over f most next items after (drop (length here) mask) sound send.1 rest)
    ∙ sym (units_of_first whole item (whole_items f most next items (drop (length here) mask)))

-- whole units of what calls send are written and told, and nothing else
pub writes_whole : (most : ℕ) (s : PacketizerState) (w : Depacketization) (calls : List Call) → IsPayloadFormat s.format → IsPacketizerState s → AreCalls calls → w.state.format ≡ s.format →
    AreCarried s.format (state_units s (all_entries s.format calls)) →
    (mask : List Bool) → length mask ≡ length (state_packets s (all_entries s.format calls)) → WritesWholeUnits most s w calls mask
writes_whole most s w calls ok is small same carried mask long =
    let f = s.format in
    let items = state_plan s (all_entries f calls) in
    let sent = state_packets s (all_entries f calls) in
    let send = can_send f ok.reads items (sender_plans s is ok.sets ok.other (all_entries f calls) (entries_of_calls f calls small) carried) in
    let brought : kept_units most w.state.run mask (map w.state.format.read sent) ≡ whole_units most s calls mask =
    ap (λ (g : Format). kept_units most w.state.run mask (map g.read sent)) same
    ∙ items_over f most s.next_don items w.state.run mask ok.reads send long in
    let over = written_is most w mask sent (subst (λ (g : Format). ExtraTells g) (sym same) ok.extra) in
    record {
      written = over.0 ∙ ap (λ (us : List (List ℕ)). w.out ++ byte_stream w.state.is_avc us) brought;
      told = over.1 ∙ ap (extra_after w.state.format w.extra) brought;
    }

-- so a run with one more fragment's data
extended_long : (start : Bool) (run : Option (List ℕ)) (body : List ℕ) → run_len (extended_run start run body) ≤ run_len run + length body
extended_long true run body = omega arith
extended_long false None body = omega arith
extended_long false (Some run) body = let long = length-append run body in omega (arith, long)

-- a reading adds no more to a run than its data
grows : (run : Option (List ℕ)) (most : ℕ) (reading : Reading) →
    ((start end : Bool) (head : List ℕ) (don : Option ℕ) (body : List ℕ) → reading ≡ Fragment start end head don body → length body ≤ most) →
    run_len (run_after run reading) ≤ run_len run + most
grows run most (Single unit don) each = omega arith
grows run most (Aggregate units) each = omega arith
grows run most (Fragment start true head don body) each = omega arith
grows run most (Fragment start false head don body) each =
    let h = each start false head don body refl in
    let c = extended_long start run body in
    omega (arith, h, c)
grows run most (Paci head fields extension body) each = omega arith
grows run most (Refused error) each = omega arith

-- a packet adds no more to a run than its own length
pub run_grows : (f : Format) → HeadersTakeRoom f → (run : Option (List ℕ)) (packet : List ℕ) →
    run_len (run_after run (f.read packet)) ≤ run_len run + length packet
run_grows f headers run packet = grows run (length packet) (f.read packet) (λ start end head don body is. let h = headers packet head body start end don is in omega (arith, h))
