-- A packet has one reading.
use Rattle.std.proofs.Common.{◌≡◌, ℕ, ◌+◌, ◌*◌, ◌≤◌, Bool, true, false, cond, eqb, List, [], ◌∷◌, ◌++◌, length, map, take, drop, Option, Some, None, refl, sym, ap, ◌∙◌, arith, length-append, inl, inr}
use Rattle.std.specs.Prelude.{nat_le, ◌&&◌}
use Rattle.std.proofs.lemmas.List.{take_at, drop_at, length-drop, length-map}
use Rattle.std.proofs.lemmas.Bool.Decides.{nat_tests}
use Rattle.h26x_core.specs.Word.{field, is_set}
use Rattle.h26x_core.specs.H265Unit.{type_of}
use Rattle.h26x_model.specs.Payload.Reading.{Reading, Single, Aggregate, Paci, Refused, without_don, two_byte_single}
use Rattle.h26x_core.specs.declared.error.PacketError.TheVariants.{ErrShortPacket}
use Rattle.h26x_core.specs.Pieces.{HasNoPiece, Pieces}
use Rattle.h26x_core.proofs.PieceLemmas.{only_pieces, split_at, enough}
use Rattle.h26x_model.proofs.TwoByteLemmas.{short_read, marked_read, aggregate_read, own_read}
use Rattle.h26x_model.proofs.SingleLemmas.{short_single, numbered_single}
use Rattle.h265_packets.specs.Header.{with_type}
use Rattle.h265_payload.specs.H265.{h265_rules, read, two_or_more, aggregate_of, units_behind_donl, further_units, fragment_of, paci_of, paci_behind, paci_head}
use Rattle.h265_payload.specs.Reading.{IsReading, IsWhole, IsUnitType, AreFurther, HasNoFurther, IsShort, IsCorrupted, IsUnit, IsNumberedUnit, IsShortUnit, IsAggregate, IsShortAggregate, IsNumberedAggregate, IsOneNumbered, IsNoneNumbered, IsWithoutNumber, IsFragment, IsNumberedStart, IsShortFragment, IsShortStart, IsPaci, IsShortPaci, IsPaciWithoutFields}
use Rattle.h265_payload.proofs.HeaderLemmas.{some_fragment, numbered_start}
use Rattle.h265_payload.proofs.FurtherLemmas.{only_further}

-- a packet with F clear and type 48 is read as an aggregate
pub read_aggregate : (has_donl : Bool) (packet : List ℕ) (high low : ℕ) (rest : List ℕ) → IsWhole packet high low rest → type_of high ≡ 48 →
    read has_donl packet ≡ aggregate_of has_donl rest
read_aggregate has_donl packet high low rest w t = ap (read has_donl) w.whole ∙ aggregate_read (h265_rules has_donl) high low rest w.some w.clear t

-- one of type 49 as a fragment
read_fragment : (has_donl : Bool) (packet : List ℕ) (high low b : ℕ) (rest : List ℕ) → IsWhole packet high low (b ∷ rest) → type_of high ≡ 49 →
    read has_donl packet ≡ fragment_of has_donl (is_set b 7) (is_set b 6) (with_type high (field b 5 0) ∷ low ∷ []) rest
read_fragment has_donl packet high low b rest w t = rw (w.whole, w.clear, t) refl

-- one of type 50 as a PACI
pub read_paci : (has_donl : Bool) (packet : List ℕ) (high low : ℕ) (rest : List ℕ) → IsWhole packet high low rest → type_of high ≡ 50 →
    read has_donl packet ≡ paci_of high low rest
read_paci has_donl packet high low [] w t = let s = w.some in absurd (omega arith)
read_paci has_donl packet high low (b ∷ rest) w t = rw (w.whole, w.clear, t) refl

-- a unit's type is not 48 to 50
unit_type : (type : ℕ) → IsUnitType type → (eqb type 48 ≡ false) × (eqb type 49 ≡ false) × (eqb type 50 ≡ false)
unit_type type (inl h) = (grind (arith, nat_tests), grind (arith, nat_tests), grind (arith, nat_tests))
unit_type type (inr h) = (grind (arith, nat_tests), grind (arith, nat_tests), grind (arith, nat_tests))

-- one of another type as a unit
read_single : (has_donl : Bool) (packet : List ℕ) (high low : ℕ) (rest : List ℕ) → IsWhole packet high low rest → IsUnitType (type_of high) →
    read has_donl packet ≡ two_byte_single has_donl high low rest
read_single has_donl packet high low rest w t =
    let u = unit_type (type_of high) t in
    ap (read has_donl) w.whole ∙ own_read (h265_rules has_donl) high low rest w.some w.clear u.0 u.1 ∙ rw u.2 refl

-- two units or more are an aggregate, and fewer are too short
pub two_read : (units : List (List ℕ × Option ℕ)) → 2 ≤ length units → two_or_more units ≡ Aggregate units
two_read [] two = absurd (omega arith)
two_read (first ∷ []) two = absurd (omega arith)
two_read (first ∷ second ∷ units) two = refl

-- one unit alone is too short
pub one_read : (units : List (List ℕ × Option ℕ)) → length units ≤ 1 → two_or_more units ≡ Refused ErrShortPacket
one_read [] one = refl
one_read (first ∷ []) one = refl
one_read (first ∷ second ∷ units) one = absurd (omega arith)

-- the units of an aggregate with numbers are the first and those that are found behind it
units_are : (n h l : ℕ) (first behind left : List ℕ) (further : List (List ℕ × Option ℕ)) → h * 256 + l ≡ length first → AreFurther n behind further left → HasNoFurther left →
    units_behind_donl n (h ∷ l ∷ first ++ behind) ≡ (first, Some n) ∷ further
units_are n h l first behind left further long are none =
    let a = length-append first behind in
    rw (long, enough (length first) first behind refl, take_at first behind (length first) refl, drop_at first behind (length first) refl)
    (ap (λ (x : List (List ℕ × Option ℕ)). (first, Some n) ∷ x) (only_further (length (first ++ behind)) n behind further left (omega (arith, a)) are none))

-- where no piece stands at the beginning there are none
no_units : (n : ℕ) (bytes : List ℕ) → HasNoPiece bytes → units_behind_donl n bytes ≡ []
no_units n [] none = refl
no_units n (high ∷ []) none = refl
no_units n (high ∷ low ∷ bytes) none =
    elim (nat_le (high * 256 + low) (length bytes)) as (λ b. nat_le (high * 256 + low) (length bytes) ≡ b →
    cond b ((take (high * 256 + low) bytes, Some n) ∷ further_units (length bytes) n (drop (high * 256 + low) bytes)) [] ≡ []) [
      | true ↦ λ h. let within : high * 256 + low ≤ length bytes = grind (arith, nat_tests) in let s = split_at (high * 256 + low) bytes within in
          absurd (none high low (take (high * 256 + low) bytes) (drop (high * 256 + low) bytes) (ap (λ (x : List ℕ). high ∷ low ∷ x) s.0) s.1)
      | false ↦ λ h. refl
    ] refl

-- without data a fragment is too short
no_fragment : (has_donl start end : Bool) (head : List ℕ) → (has_donl && start) ≡ false → fragment_of has_donl start end head [] ≡ Refused ErrShortPacket
no_fragment true true end head n = absurd cc
no_fragment true false end head n = refl
no_fragment false true end head n = refl
no_fragment false false end head n = refl

-- a numbered start without data is too short
short_start : (has_donl start end : Bool) (head body : List ℕ) → (has_donl && start) ≡ true → length body ≤ 2 →
    fragment_of has_donl start end head body ≡ Refused ErrShortPacket
short_start true true end head [] n short = refl
short_start true true end head (d ∷ []) n short = refl
short_start true true end head (d ∷ e ∷ []) n short = refl
short_start true true end head (d ∷ e ∷ x ∷ body) n short = absurd (omega arith)
short_start true false end head body n short = absurd cc
short_start false start end head body n short = absurd cc

-- a PACI with a payload behind its extension, and without one
some_behind : (high low fields : ℕ) (extension body : List ℕ) → 1 ≤ length body → paci_behind high low fields extension body ≡ Paci (paci_head high low fields) fields extension body
some_behind high low fields extension [] some = absurd (omega arith)
some_behind high low fields extension (b ∷ body) some = refl

-- nothing behind an extension is too short
none_behind : (high low fields : ℕ) (extension body : List ℕ) → length body ≡ 0 → paci_behind high low fields extension body ≡ Refused ErrShortPacket
none_behind high low fields extension [] zero_long = refl
none_behind high low fields extension (b ∷ body) zero_long = absurd (omega arith)

-- a PACI with a payload
some_paci : (high low a b : ℕ) (extension body : List ℕ) → field (a * 256 + b) 8 4 ≡ length extension → 1 ≤ length body →
    paci_of high low (a ∷ b ∷ extension ++ body) ≡ Paci (paci_head high low (a * 256 + b)) (a * 256 + b) extension body
some_paci high low a b extension body long some =
    rw (take_at extension body (field (a * 256 + b) 8 4) (sym long), drop_at extension body (field (a * 256 + b) 8 4) (sym long)) (some_behind high low (a * 256 + b) extension body some)

-- a PACI without one is too short
short_paci : (high low a b : ℕ) (bytes : List ℕ) → length bytes ≤ field (a * 256 + b) 8 4 → paci_of high low (a ∷ b ∷ bytes) ≡ Refused ErrShortPacket
short_paci high low a b bytes short =
    let l = length-drop (field (a * 256 + b) 8 4) bytes in
    none_behind high low (a * 256 + b) (take (field (a * 256 + b) 8 4) bytes) (drop (field (a * 256 + b) 8 4) bytes) (omega (arith, l))

-- a packet has no other reading than the one that is computed
pub only_reading : (has_donl : Bool) (packet : List ℕ) (reading : Reading) → IsReading has_donl packet reading → read has_donl packet ≡ reading
only_reading has_donl packet reading (IsShort short is) = short_read (h265_rules has_donl) packet short ∙ sym is
only_reading has_donl packet reading (IsCorrupted high low rest same some f is) = ap (read has_donl) same ∙ marked_read (h265_rules has_donl) high low rest some f ∙ sym is
only_reading has_donl packet reading (IsUnit high low rest w t n is) = read_single has_donl packet high low rest w t ∙ rw n (ap (λ (x : List ℕ). Single x None) (sym w.whole)) ∙ sym is
only_reading has_donl packet reading (IsNumberedUnit high low d e body w t n some is) =
    read_single has_donl packet high low (d ∷ e ∷ body) w t ∙ rw n (numbered_single high low d e body some) ∙ sym is
only_reading has_donl packet reading (IsShortUnit high low rest w t n short is) = read_single has_donl packet high low rest w t ∙ rw n (short_single high low rest short) ∙ sym is
only_reading has_donl packet reading (IsAggregate high low rest left pieces w t n are none two is) =
    read_aggregate has_donl packet high low rest w t
    ∙ rw n (ap (λ (p : Pieces). two_or_more (map without_don p.whole)) (only_pieces rest pieces left are none) ∙ two_read (map without_don pieces) (rw length-map two)) ∙ sym is
only_reading has_donl packet reading (IsShortAggregate high low rest left pieces w t n are none one is) =
    read_aggregate has_donl packet high low rest w t
    ∙ rw n (ap (λ (p : Pieces). two_or_more (map without_don p.whole)) (only_pieces rest pieces left are none) ∙ one_read (map without_don pieces) (rw length-map one)) ∙ sym is
only_reading has_donl packet reading (IsNumberedAggregate high low d e h l first behind left further w t n long are none some is) =
    read_aggregate has_donl packet high low (d ∷ e ∷ h ∷ l ∷ first ++ behind) w t
    ∙ rw n (ap two_or_more (units_are (d * 256 + e) h l first behind left further long are none) ∙ two_read ((first, Some (d * 256 + e)) ∷ further) (omega arith)) ∙ sym is
only_reading has_donl packet reading (IsOneNumbered high low d e h l first behind w t n long none is) =
    read_aggregate has_donl packet high low (d ∷ e ∷ h ∷ l ∷ first ++ behind) w t
    ∙ rw n (ap two_or_more (units_are (d * 256 + e) h l first behind behind [] long refl none)) ∙ sym is
only_reading has_donl packet reading (IsNoneNumbered high low d e bytes w t n none is) =
    read_aggregate has_donl packet high low (d ∷ e ∷ bytes) w t ∙ rw n (ap two_or_more (no_units (d * 256 + e) bytes none)) ∙ sym is
only_reading has_donl packet reading (IsWithoutNumber high low d w t n is) = read_aggregate has_donl packet high low (d ∷ []) w t ∙ rw n refl ∙ sym is
only_reading has_donl packet reading (IsFragment high low b body w t n some is) =
    read_fragment has_donl packet high low b body w t ∙ some_fragment has_donl (is_set b 7) _ _ body n some ∙ sym is
only_reading has_donl packet reading (IsNumberedStart high low b d e body w t n some is) =
    read_fragment has_donl packet high low b (d ∷ e ∷ body) w t ∙ numbered_start has_donl (is_set b 7) _ _ d e body n some ∙ sym is
only_reading has_donl packet reading (IsShortFragment high low b w t n is) = read_fragment has_donl packet high low b [] w t ∙ no_fragment has_donl (is_set b 7) _ _ n ∙ sym is
only_reading has_donl packet reading (IsShortStart high low b body w t n short is) =
    read_fragment has_donl packet high low b body w t ∙ short_start has_donl (is_set b 7) _ _ body n short ∙ sym is
only_reading has_donl packet reading (IsPaci high low a b extension body w t long some is) =
    read_paci has_donl packet high low (a ∷ b ∷ extension ++ body) w t ∙ some_paci high low a b extension body long some ∙ sym is
only_reading has_donl packet reading (IsShortPaci high low a b bytes w t short is) =
    read_paci has_donl packet high low (a ∷ b ∷ bytes) w t ∙ short_paci high low a b bytes short ∙ sym is
only_reading has_donl packet reading (IsPaciWithoutFields high low a w t is) = read_paci has_donl packet high low (a ∷ []) w t ∙ sym is
