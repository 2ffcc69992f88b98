-- The header of an aggregate by its units: that it is theirs, and that the packet is read as before.
use Rattle.std.proofs.Common.{◌≡◌, ℕ, ◌+◌, ◌*◌, ◌/◌, ◌%◌, ◌<◌, ◌≤◌, ◌||◌, Bool, true, false, cond, eqb, List, [], ◌∷◌, ◌++◌, length, map, drop, Option, Some, refl, sym, ap, ◌∙◌, subst, arith, eq-eqb}
use Rattle.std.specs.Prelude.{IsTrue, ◌==◌, nat_le}
use Rattle.std.specs.List.{list_any, flat_map, range_with_len, AllByRecursion}
use Rattle.std.proofs.lemmas.List.{map-append}
use Rattle.std.proofs.lemmas.Bool.{and_parts}
use Rattle.std.proofs.lemmas.Bool.Decides.{nat_tests}
use Rattle.h26x_core.specs.Word.{field, is_set, flag}
use Rattle.h26x_core.specs.H265Unit.{is_forbidden, type_of, layer_id, temporal_id}
use Rattle.h26x_core.specs.Pieces.{Pieces, piece}
use Rattle.h26x_core.proofs.PieceLemmas.{pieces_back}
use Rattle.h26x_core.specs.ByteStream.{byte_stream}
use Rattle.h26x_model.specs.Payload.Format.{Format, donl_bytes}
use Rattle.h26x_model.specs.Payload.Reading.{Reading}
use Rattle.h26x_model.specs.Payload.Extra.{extra_after}
use Rattle.h26x_model.specs.Payload.TwoBytes.{two_byte_carries, two_byte_detects}
use Rattle.h26x_model.specs.Receive.DepacketizerState.{Depacketization, after_packets, readings_units, run_after_readings}
use Rattle.h26x_model.specs.Payload.Facts.{AreCarried, IsPlanned}
use Rattle.h26x_model.specs.Send.Calls.{Call, AreCalls, all_entries}
use Rattle.h26x_model.specs.Send.Plan.{Item, Alone, Together, fits_one_packet, item_units}
use Rattle.h26x_model.specs.Send.Packets.{single_packet, fragment, fragments, fragment_count, item_packets, plan_packets}
use Rattle.h26x_model.specs.Send.PacketizerState.{PacketizerState, IsPacketizerState, state_plan, state_units, state_packets}
use Rattle.h26x_model.proofs.SentLemmas.{entries_of_calls}
use Rattle.h26x_model.proofs.SenderLemmas.{sender_plans}
use Rattle.h26x_model.proofs.SetsLemmas.{sets_short}
use Rattle.h26x_model.proofs.LossLemmas.{numbered_back}
use Rattle.h26x_model.proofs.TwoByteLemmas.{of_carried}
use Rattle.h265_packets.specs.Payload.{OtherUnit}
use Rattle.h265_payload.specs.H265.{h265, h265_header, h265_rules, read, sets_packet, with_type_and_f, further_set}
use Rattle.h265_payload.specs.Shown.{others_of, without_dond}
use Rattle.h265_payload.specs.LowestHeader.{has_forbidden_bit, layer_of, temporal_of, lowest, lowest_layer, lowest_temporal, lowest_high, lowest_low, units_carried, is_whole_aggregate, with_lowest_header, IsLowest, IsLowestHeader, IsHeadedByUnits, IsReadAlike, IsDetectedAlike, AreTakenAlike}
use Rattle.h265_payload.proofs.HeaderLemmas.{is_two_bytes, clear_as}
use Rattle.h265_payload.proofs.SetsLemmas.{fit_is_within, units_back}
use Rattle.h265_payload.proofs.AggregateLemmas.{all_apart, units_without}
use Rattle.h265_payload.proofs.FactLemmas.{is_payload_format}

-- the lowest value is at most the most that there is
pub lowest_most : (most : ℕ) (value : List ℕ → ℕ) (units : List (List ℕ)) → lowest most value units ≤ most
lowest_most most value [] = omega arith
lowest_most most value (unit ∷ units) = let h = lowest_most most value units in omega (arith, h)

-- what is at most the lowest value is at most each
all_least : (most : ℕ) (value : List ℕ → ℕ) (n : ℕ) (units : List (List ℕ)) → n ≤ lowest most value units → AllByRecursion (λ unit. n ≤ value unit) units
all_least most value n [] least = tt
all_least most value n (unit ∷ units) least = (omega arith, all_least most value n units (omega arith))

-- a unit has the lowest value
is_there : (most : ℕ) (value : List ℕ → ℕ) → ((unit : List ℕ) → value unit ≤ most) → (unit : List ℕ) (units : List (List ℕ)) (n : ℕ) → n ≡ lowest most value (unit ∷ units) →
    list_any (λ unit. eqb (value unit) n) (unit ∷ units) ≡ true
is_there most value small unit [] n same = let s = small unit in let e : eqb (value unit) n ≡ true = eq-eqb (value unit) n (omega (arith, s)) in rw e refl
is_there most value small unit (second ∷ units) n same =
    let later : n ≡ lowest most value (second ∷ units) → list_any (λ unit. eqb (value unit) n) (second ∷ units) ≡ true = is_there most value small second units n in
    elim (eqb (value unit) n) as (λ b. eqb (value unit) n ≡ b → (b || list_any (λ unit. eqb (value unit) n) (second ∷ units)) ≡ true) [
      | true ↦ λ _. refl
      | false ↦ λ no. later (grind (arith, nat_tests))
    ] refl

-- the lowest value of units is one
is_lowest : (most : ℕ) (value : List ℕ → ℕ) → ((unit : List ℕ) → value unit ≤ most) → (units : List (List ℕ)) → 1 ≤ length units → IsLowest value units (lowest most value units)
is_lowest most value small [] some = absurd (omega arith)
is_lowest most value small (unit ∷ units) some = record {
  there = is_there most value small unit units (lowest most value (unit ∷ units)) refl;
  least = all_least most value (lowest most value (unit ∷ units)) (unit ∷ units) (omega arith);
}

-- a layer has six bits, and a temporal id three
layer_small : (unit : List ℕ) → layer_of unit ≤ 63
layer_small [] = omega arith
layer_small (high ∷ []) = omega arith
layer_small (high ∷ low ∷ unit) = omega arith

temporal_small : (unit : List ℕ) → temporal_of unit ≤ 7
temporal_small [] = omega arith
temporal_small (high ∷ []) = omega arith
temporal_small (high ∷ low ∷ unit) = omega arith

-- a header's fields are what it was made of
f_back : (f : Bool) (layer : ℕ) → layer ≤ 63 → is_forbidden (flag f 0x80 + 48 * 2 + layer / 32) ≡ f
f_back true layer small = let one : field (0x80 + 48 * 2 + layer / 32) 7 7 ≡ 1 = omega arith in grind (arith, nat_tests)
f_back false layer small = let none : field (0 + 48 * 2 + layer / 32) 7 7 ≡ 0 = omega arith in grind (arith, nat_tests)

pub type_back : (f : Bool) (layer : ℕ) → layer ≤ 63 → type_of (flag f 0x80 + 48 * 2 + layer / 32) ≡ 48
type_back true layer small = omega arith
type_back false layer small = omega arith

layer_back : (f : Bool) (layer temporal : ℕ) → layer ≤ 63 → temporal ≤ 7 → layer_id (flag f 0x80 + 48 * 2 + layer / 32) (layer % 32 * 8 + temporal) ≡ layer
layer_back true layer temporal small few = omega arith
layer_back false layer temporal small few = omega arith

temporal_back : (layer temporal : ℕ) → temporal ≤ 7 → temporal_id (layer % 32 * 8 + temporal) ≡ temporal
temporal_back layer temporal few = omega arith

-- the header is that of its units
pub header_is : (units : List (List ℕ)) → 1 ≤ length units → IsLowestHeader units (lowest_high units) (lowest_low units)
header_is units some =
    let f = list_any has_forbidden_bit units in
    let layer = lowest_layer units in
    let temporal = lowest_temporal units in
    let small : layer ≤ 63 = lowest_most 63 layer_of units in
    let few : temporal ≤ 7 = lowest_most 7 temporal_of units in
    record {
      forbidden = f_back f layer small;
      type = type_back f layer small;
      layer = subst (IsLowest layer_of units) (sym (layer_back f layer temporal small few)) (is_lowest 63 layer_of layer_small units some);
      temporal = subst (IsLowest temporal_of units) (sym (temporal_back layer temporal few)) (is_lowest 7 temporal_of temporal_small units some);
    }

-- a whole aggregate has two units or more
two_units : (has_donl : Bool) (packet : List ℕ) → is_whole_aggregate has_donl packet ≡ true → 1 ≤ length (units_carried has_donl packet)
two_units has_donl [] whole = absurd cc
two_units has_donl (high ∷ rest) whole =
    let two_of : nat_le 2 (length (units_carried has_donl (high ∷ rest))) ≡ true = (and_parts (type_of high == 48) (nat_le 2 (length (units_carried has_donl (high ∷ rest)))) whole).1 in
    grind (arith, nat_tests)

-- and so a whole header
whole_long : (has_donl : Bool) (packet : List ℕ) → is_whole_aggregate has_donl packet ≡ true → 2 ≤ length packet
whole_long has_donl [] whole = absurd cc
whole_long true (x ∷ []) whole = let none : nat_le 2 0 ≡ true = (and_parts (type_of x == 48) (nat_le 2 (length (units_carried true (x ∷ [])))) whole).1 in absurd cc
whole_long false (x ∷ []) whole = let none : nat_le 2 0 ≡ true = (and_parts (type_of x == 48) (nat_le 2 (length (units_carried false (x ∷ [])))) whole).1 in absurd cc
whole_long has_donl (x ∷ y ∷ rest) whole = omega arith

-- with two other bytes a packet is as long
as_long : (h l : ℕ) (packet : List ℕ) → 2 ≤ length packet → length (h ∷ l ∷ drop 2 packet) ≡ length packet
as_long h l [] long = absurd (omega arith)
as_long h l (x ∷ []) long = absurd (omega arith)
as_long h l (x ∷ y ∷ rest) long = refl

-- a packet with that header
pub is_headed : (has_donl : Bool) (packet : List ℕ) → IsHeadedByUnits has_donl packet
is_headed has_donl packet = record {
  header = λ whole. rw whole (header_is (units_carried has_donl packet) (two_units has_donl packet whole));
  behind = elim (is_whole_aggregate has_donl packet) as (λ b. drop 2 (cond b (lowest_high (units_carried has_donl packet) ∷ lowest_low (units_carried has_donl packet) ∷ drop 2 packet) packet) ≡ drop 2 packet) [
    | true ↦ refl
    | false ↦ refl
  ];
  len = elim (is_whole_aggregate has_donl packet) as (λ b. is_whole_aggregate has_donl packet ≡ b →
      length (cond b (lowest_high (units_carried has_donl packet) ∷ lowest_low (units_carried has_donl packet) ∷ drop 2 packet) packet) ≡ length packet) [
        | true ↦ λ whole. as_long (lowest_high (units_carried has_donl packet)) (lowest_low (units_carried has_donl packet)) packet (whole_long has_donl packet whole)
        | false ↦ λ _. refl
      ] refl;
  other = λ not_whole. rw not_whole refl;
}

-- two aggregates with F alike are read alike
same_read : (has_donl : Bool) (high low h l : ℕ) (rest : List ℕ) → type_of high ≡ 48 → type_of h ≡ 48 → is_set h 7 ≡ is_set high 7 →
    read has_donl (h ∷ l ∷ rest) ≡ read has_donl (high ∷ low ∷ rest)
same_read has_donl high low h l [] kind other same = refl
same_read has_donl high low h l (b ∷ rest) kind other same = rw (other, kind, same) refl

-- a packet with that header is read as before, where F is set in it as it is in its units
pub read_alike : (has_donl : Bool) (high low : ℕ) (rest : List ℕ) → IsReadAlike has_donl high low rest
read_alike has_donl high low rest same =
    let packet = high ∷ low ∷ rest in
    let units = units_carried has_donl packet in
    let small : lowest_layer units ≤ 63 = lowest_most 63 layer_of units in
    elim (is_whole_aggregate has_donl packet) as (λ b. is_whole_aggregate has_donl packet ≡ b →
    read has_donl (cond b (lowest_high units ∷ lowest_low units ∷ rest) packet) ≡ read has_donl packet) [
      | true ↦ λ whole.
          let kind : (type_of high == 48) ≡ true = (and_parts (type_of high == 48) (nat_le 2 (length units)) whole).0 in
          let is : type_of high ≡ 48 = grind (arith, nat_tests) in
          same_read has_donl high low (lowest_high units) (lowest_low units) rest is (type_back (list_any has_forbidden_bit units) (lowest_layer units) small)
          (f_back (list_any has_forbidden_bit units) (lowest_layer units) small ∙ sym same)
      | false ↦ λ _. refl
    ] refl

-- a keyframe is detected in it as before
pub detected_alike : (has_donl : Bool) (high low : ℕ) (rest : List ℕ) → IsDetectedAlike has_donl high low rest
detected_alike has_donl high low rest =
    let packet = high ∷ low ∷ rest in
    let units = units_carried has_donl packet in
    let small : lowest_layer units ≤ 63 = lowest_most 63 layer_of units in
    elim (is_whole_aggregate has_donl packet) as (λ b. is_whole_aggregate has_donl packet ≡ b →
    two_byte_detects h265_header (cond b (lowest_high units ∷ lowest_low units ∷ rest) packet) ≡ two_byte_detects h265_header packet) [
      | true ↦ λ whole.
          let kind : (type_of high == 48) ≡ true = (and_parts (type_of high == 48) (nat_le 2 (length units)) whole).0 in
          let is : type_of high ≡ 48 = grind (arith, nat_tests) in
          rw (type_back (list_any has_forbidden_bit units) (lowest_layer units) small, is) refl
      | false ↦ λ _. refl
    ] refl

-- a packet of another type stays
left_alone : (has_donl : Bool) (high : ℕ) (rest : List ℕ) → eqb (type_of high) 48 ≡ false → with_lowest_header has_donl (high ∷ rest) ≡ high ∷ rest
left_alone has_donl high rest other = rw other refl

-- so does a unit alone
single_left : (has_donl : Bool) (n : ℕ) (unit : List ℕ) → IsTrue (two_byte_carries h265_header unit) → with_lowest_header has_donl (single_packet (h265 has_donl) n unit) ≡ single_packet (h265 has_donl) n unit
single_left has_donl n = of_carried has_donl (h265_rules has_donl) (is_two_bytes has_donl)
    (λ unit. with_lowest_header has_donl (single_packet (h265 has_donl) n unit) ≡ single_packet (h265 has_donl) n unit)
    (λ high low b unit c. left_alone has_donl high (low ∷ donl_bytes has_donl n ++ (b ∷ unit)) c.no_aggregate)

-- a fragment has type 49
fragment_type : (high : ℕ) → eqb (type_of (with_type_and_f high 49)) 48 ≡ false
fragment_type high = let is : type_of (with_type_and_f high 49) ≡ 49 = omega arith in rw is refl

-- and stays
fragment_left : (has_donl : Bool) (n limit j : ℕ) (unit : List ℕ) → IsTrue (two_byte_carries h265_header unit) → with_lowest_header has_donl (fragment (h265 has_donl) n limit unit j) ≡ fragment (h265 has_donl) n limit unit j
fragment_left has_donl n limit j = of_carried has_donl (h265_rules has_donl) (is_two_bytes has_donl)
    (λ unit. with_lowest_header has_donl (fragment (h265 has_donl) n limit unit j) ≡ fragment (h265 has_donl) n limit unit j)
    (λ high low b unit c. left_alone has_donl (with_type_and_f high 49) (drop 1 (fragment (h265 has_donl) n limit (high ∷ low ∷ b ∷ unit) j)) (fragment_type high))

-- and so all of them are read as before
fragments_alike : (has_donl : Bool) (n limit : ℕ) (unit : List ℕ) (places : List ℕ) → IsTrue (two_byte_carries h265_header unit) →
    map (read has_donl) (map (with_lowest_header has_donl) (map (fragment (h265 has_donl) n limit unit) places)) ≡ map (read has_donl) (map (fragment (h265 has_donl) n limit unit) places)
fragments_alike has_donl n limit unit [] carried = refl
fragments_alike has_donl n limit unit (j ∷ places) carried =
    rw (fragment_left has_donl n limit j unit carried) (ap (λ rs. read has_donl (fragment (h265 has_donl) n limit unit j) ∷ rs) (fragments_alike has_donl n limit unit places carried))

-- units with nothing before their lengths are the units
plain_out : (units : List (List ℕ)) → map (λ (other : OtherUnit). other.nal_unit) (map without_dond units) ≡ units
plain_out [] = refl
plain_out (unit ∷ units) = ap (λ (x : List (List ℕ)). unit ∷ x) (plain_out units)

-- a packet of sets carries these sets
sets_carried : (has_donl : Bool) (n high low : ℕ) (unit set : List ℕ) (sets : List (List ℕ)) → AllByRecursion (λ set. length set < 65536) (set ∷ sets) →
    units_carried has_donl (sets_packet has_donl n (set ∷ sets) (high ∷ low ∷ unit)) ≡ set ∷ sets
sets_carried false n high low unit set sets short =
    ap (λ (p : Pieces). map (λ (other : OtherUnit). other.nal_unit) (map without_dond p.whole)) (pieces_back (set ∷ sets) short) ∙ plain_out (set ∷ sets)
sets_carried true n high low unit set sets short =
    let e = n % 65536 % 256 in
    let bytes = piece set ++ flat_map (further_set true) sets in
    let others = others_of true (e ∷ bytes) in
    sym (units_without true (Some (n % 65536)) others)
    ∙ ap (map (λ (u : List ℕ × Option ℕ). u.0)) (sym (all_apart (n % 65536) e bytes) ∙ units_back n set sets short)
    ∙ numbered_back (h265 true) n (set ∷ sets)

-- carried units have F clear
none_forbidden : (has_donl : Bool) (units : List (List ℕ)) → AreCarried (h265 has_donl) units → list_any has_forbidden_bit units ≡ false
none_forbidden has_donl [] carried = refl
none_forbidden has_donl (unit ∷ units) (this, others) =
    let clear : has_forbidden_bit unit ≡ false = of_carried has_donl (h265_rules has_donl) (is_two_bytes has_donl) (λ unit. has_forbidden_bit unit ≡ false) (λ high low b unit c. c.clear) unit this in
    rw clear (none_forbidden has_donl units others)

-- a packet of carried sets is read as before
sets_alike : (has_donl : Bool) (n : ℕ) (sets : List (List ℕ)) (unit : List ℕ) → AllByRecursion (λ set. length set < 65536) sets → AreCarried (h265 has_donl) sets → IsTrue (two_byte_carries h265_header unit) →
    read has_donl (with_lowest_header has_donl (sets_packet has_donl n sets unit)) ≡ read has_donl (sets_packet has_donl n sets unit)
sets_alike has_donl n [] unit short carried h = refl
sets_alike has_donl n (set ∷ sets) unit short carried h = of_carried has_donl (h265_rules has_donl) (is_two_bytes has_donl)
    (λ unit. read has_donl (with_lowest_header has_donl (sets_packet has_donl n (set ∷ sets) unit)) ≡ read has_donl (sets_packet has_donl n (set ∷ sets) unit))
    (λ high low b unit c. read_alike has_donl (with_type_and_f high 48) low (donl_bytes has_donl n ++ piece set ++ flat_map (further_set has_donl) sets)
    (clear_as high 48 c.clear (omega arith)
    ∙ sym (ap (list_any has_forbidden_bit) (sets_carried has_donl n high low (b ∷ unit) set sets short) ∙ none_forbidden has_donl (set ∷ sets) carried))) unit h

-- the packets of an item are read as before
item_alike : (has_donl : Bool) (n : ℕ) (item : Item) → IsPlanned (h265 has_donl) item →
    map (read has_donl) (map (with_lowest_header has_donl) (item_packets (h265 has_donl) n item)) ≡ map (read has_donl) (item_packets (h265 has_donl) n item)
item_alike has_donl n (Alone limit unit) (carried, kept) =
    elim (fits_one_packet (h265 has_donl) limit unit) as (λ b.
    map (read has_donl) (map (with_lowest_header has_donl) (cond b (single_packet (h265 has_donl) n unit ∷ []) (fragments (h265 has_donl) n limit unit)))
    ≡ map (read has_donl) (cond b (single_packet (h265 has_donl) n unit ∷ []) (fragments (h265 has_donl) n limit unit))) [
      | true ↦ ap (λ packet. read has_donl packet ∷ []) (single_left has_donl n unit carried)
      | false ↦ fragments_alike has_donl n limit unit (range_with_len 0 (fragment_count (h265 has_donl) limit unit)) carried
    ]
item_alike has_donl n (Together limit sets unit) (is, fit, many, carried, h, keys) =
    ap (λ reading. reading ∷ []) (sets_alike has_donl n sets unit (sets_short (h265 has_donl) (fit_is_within has_donl) limit sets (is refl) fit) carried h)

-- and so are those of a plan
pub plan_alike : (has_donl : Bool) (n : ℕ) (items : List Item) → AllByRecursion (IsPlanned (h265 has_donl)) items →
    map (read has_donl) (map (with_lowest_header has_donl) (plan_packets (h265 has_donl) n items)) ≡ map (read has_donl) (plan_packets (h265 has_donl) n items)
plan_alike has_donl n [] planned = refl
plan_alike has_donl n (item ∷ items) (this, others) =
    let f = h265 has_donl in
    let first = item_packets f n item in
    let later = plan_packets f (n + length (item_units item)) items in
    ap (map (read has_donl)) (map-append (with_lowest_header has_donl) first later)
    ∙ map-append (read has_donl) (map (with_lowest_header has_donl) first) (map (with_lowest_header has_donl) later)
    ∙ ap (λ rs. rs ++ map (read has_donl) (map (with_lowest_header has_donl) later)) (item_alike has_donl n item this)
    ∙ ap (λ rs. map (read has_donl) first ++ rs) (plan_alike has_donl (n + length (item_units item)) items others)
    ∙ sym (map-append (read has_donl) first later)

-- what calls send of carried units is read as before
pub sent_alike : (has_donl : Bool) (s : PacketizerState) (calls : List Call) → s.format ≡ h265 has_donl → IsPacketizerState s → AreCalls calls →
    AreCarried s.format (state_units s (all_entries s.format calls)) →
    map (read has_donl) (map (with_lowest_header has_donl) (state_packets s (all_entries s.format calls))) ≡ map (read has_donl) (state_packets s (all_entries s.format calls))
sent_alike has_donl s calls same is calls_are carried =
    let facts = is_payload_format has_donl in
    let entries = all_entries s.format calls in
    let planned : AllByRecursion (IsPlanned s.format) (state_plan s entries) =
    sender_plans s is (rw same facts.sets) (rw same facts.other) entries (entries_of_calls s.format calls calls_are) carried in
    let P : Format → Type 0 = λ f. map (read has_donl) (map (with_lowest_header has_donl) (plan_packets f s.next_don (state_plan s entries))) ≡ map (read has_donl) (plan_packets f s.next_don (state_plan s entries)) in
    subst P (sym same) (plan_alike has_donl s.next_don (state_plan s entries) (subst (λ (f : Format). AllByRecursion (IsPlanned f) (state_plan s entries)) same planned))

-- packets with the same readings leave the same
after_alike : (w : Depacketization) (a b : List (List ℕ)) → map w.state.format.read a ≡ map w.state.format.read b → after_packets w a ≡ after_packets w b
after_alike w a b same = ap (λ (readings : List Reading). record {
  state = record { format = w.state.format; is_avc = w.state.is_avc; run = run_after_readings w.state.run readings };
  out = w.out ++ byte_stream w.state.is_avc (readings_units w.state.run readings);
  extra = extra_after w.state.format w.extra (readings_units w.state.run readings);
}) same

-- so a depacketizer takes what calls send of carried units as before
pub taken_alike : (has_donl : Bool) (s : PacketizerState) (w : Depacketization) (calls : List Call) → s.format ≡ h265 has_donl → w.state.format ≡ h265 has_donl → IsPacketizerState s → AreCalls calls →
    AreCarried s.format (state_units s (all_entries s.format calls)) → AreTakenAlike has_donl w (state_packets s (all_entries s.format calls))
taken_alike has_donl s w calls same same_end is calls_are carried =
    let packets = state_packets s (all_entries s.format calls) in
    after_alike w (map (with_lowest_header has_donl) packets) packets
    (subst (λ (f : Format). map f.read (map (with_lowest_header has_donl) packets) ≡ map f.read packets) (sym same_end) (sent_alike has_donl s calls same is calls_are carried))
