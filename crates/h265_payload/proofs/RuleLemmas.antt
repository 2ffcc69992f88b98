-- The reading that is computed is one by a rule for the packet's kind.
use Rattle.std.proofs.Common.{◌≡◌, ℕ, ◌+◌, ◌*◌, ◌<◌, ◌≤◌, Bool, true, false, cond, eqb, List, [], ◌∷◌, ◌++◌, length, map, take, drop, Option, Some, refl, sym, ap, ◌∙◌, inl, inr, arith}
use Rattle.std.specs.Prelude.{nat_le}
use Rattle.std.proofs.lemmas.List.{length-drop, length-take, take-append-drop}
use Rattle.std.proofs.lemmas.Bool.{eqb-true}
use Rattle.std.proofs.lemmas.Bool.Decides.{nat_tests}
use Rattle.h26x_core.specs.Word.{field, is_set}
use Rattle.h26x_core.specs.H265Unit.{type_of}
use Rattle.h26x_model.specs.Payload.Reading.{without_don, two_byte_single}
use Rattle.h26x_core.specs.Pieces.{ArePieces, HasNoPiece, pieces_of}
use Rattle.h26x_core.proofs.PieceLemmas.{pieces_are, split_at, none_past}
use Rattle.h265_packets.specs.Header.{with_type}
use Rattle.h265_payload.specs.H265.{h265_rules, read, two_or_more, aggregate_of, further_units, fragment_of, paci_of, paci_behind}
use Rattle.h265_payload.specs.Reading.{IsReading, IsWhole, IsUnitType, AreFurther, HasNoFurther, IsShort, IsCorrupted, IsUnit, IsNumberedUnit, IsShortUnit, IsAggregate, IsShortAggregate, IsNumberedAggregate, IsOneNumbered, IsNoneNumbered, IsWithoutNumber, IsFragment, IsNumberedStart, IsShortFragment, IsShortStart, IsPaci, IsShortPaci, IsPaciWithoutFields}
use Rattle.h26x_model.proofs.TwoByteLemmas.{by_kind}
use Rattle.h265_payload.proofs.FurtherLemmas.{further_are}

-- a single unit
single_is : (has_donl : Bool) (packet : List ℕ) (high low : ℕ) (rest : List ℕ) → IsWhole packet high low rest → IsUnitType (type_of high) → packet ≡ high ∷ low ∷ rest →
    IsReading has_donl packet (two_byte_single has_donl high low rest)
single_is false packet high low rest w t same = IsUnit high low rest w t refl (rw same refl)
single_is true packet high low [] w t same = IsShortUnit high low [] w t refl (omega arith) refl
single_is true packet high low (d ∷ []) w t same = IsShortUnit high low (d ∷ []) w t refl (omega arith) refl
single_is true packet high low (d ∷ e ∷ []) w t same = IsShortUnit high low (d ∷ e ∷ []) w t refl (omega arith) refl
single_is true packet high low (d ∷ e ∷ b ∷ body) w t same = IsNumberedUnit high low d e (b ∷ body) w t refl (omega arith) refl

-- an aggregate without numbers, by its pieces
pieces_is : (packet : List ℕ) (high low : ℕ) (rest left : List ℕ) (pieces : List (List ℕ)) → IsWhole packet high low rest → type_of high ≡ 48 →
    ArePieces rest pieces left → HasNoPiece left →
    IsReading false packet (two_or_more (map without_don pieces))
pieces_is packet high low rest left [] w t are none = IsShortAggregate high low rest left [] w t refl are none (omega arith) refl
pieces_is packet high low rest left (piece ∷ []) w t are none = IsShortAggregate high low rest left (piece ∷ []) w t refl are none (omega arith) refl
pieces_is packet high low rest left (piece ∷ second ∷ pieces) w t are none = IsAggregate high low rest left (piece ∷ second ∷ pieces) w t refl are none (omega arith) refl

-- an aggregate with numbers, by the units behind its first
further_is : (packet : List ℕ) (high low d e h l : ℕ) (first behind left : List ℕ) (further : List (List ℕ × Option ℕ)) →
    IsWhole packet high low (d ∷ e ∷ h ∷ l ∷ first ++ behind) → type_of high ≡ 48 → h * 256 + l ≡ length first →
    AreFurther (d * 256 + e) behind further left → HasNoFurther left → IsReading true packet (two_or_more ((first, Some (d * 256 + e)) ∷ further))
further_is packet high low d e h l first behind left [] w t long are none = IsOneNumbered high low d e h l first behind w t refl long (rw are none) refl
further_is packet high low d e h l first behind left (second ∷ further) w t long are none =
    IsNumberedAggregate high low d e h l first behind left (second ∷ further) w t refl long are none (omega arith) refl

-- an aggregate
aggregate_is : (has_donl : Bool) (packet : List ℕ) (high low : ℕ) (rest : List ℕ) → IsWhole packet high low rest → type_of high ≡ 48 →
    IsReading has_donl packet (aggregate_of has_donl rest)
aggregate_is false packet high low rest w t = let p = pieces_are rest in pieces_is packet high low rest (pieces_of rest).left (pieces_of rest).whole w t p.0 p.1
aggregate_is true packet high low [] w t = let s = w.some in absurd (omega arith)
aggregate_is true packet high low (d ∷ []) w t = IsWithoutNumber high low d w t refl refl
aggregate_is true packet high low (d ∷ e ∷ []) w t = IsNoneNumbered high low d e [] w t refl (pieces_are []).1 refl
aggregate_is true packet high low (d ∷ e ∷ h ∷ []) w t = IsNoneNumbered high low d e (h ∷ []) w t refl (pieces_are (h ∷ [])).1 refl
aggregate_is true packet high low (d ∷ e ∷ h ∷ l ∷ bytes) w t =
    let k = h * 256 + l in
    elim (nat_le k (length bytes)) as (λ b. nat_le k (length bytes) ≡ b →
    IsReading true packet (two_or_more (cond b ((take k bytes, Some (d * 256 + e)) ∷ further_units (length bytes) (d * 256 + e) (drop k bytes)) []))) [
      | true ↦ λ t_. let within : k ≤ length bytes = grind (arith, nat_tests) in
          let s = split_at k bytes within in
          let len = length-drop k bytes in
          let f = further_are (length bytes) (d * 256 + e) (drop k bytes) (omega (arith, len)) in
          further_is packet high low d e h l (take k bytes) (drop k bytes) f.0 (further_units (length bytes) (d * 256 + e) (drop k bytes))
          (rw (← s.0) w) t s.1 f.1 f.2
      | false ↦ λ t_. let past : length bytes < k = grind (arith, nat_tests) in IsNoneNumbered high low d e (h ∷ l ∷ bytes) w t refl (none_past h l bytes past) refl
    ] refl

-- a fragment
fragment_is : (has_donl start : Bool) (packet : List ℕ) (high low b : ℕ) (body : List ℕ) → IsWhole packet high low (b ∷ body) → type_of high ≡ 49 → is_set b 7 ≡ start →
    IsReading has_donl packet (fragment_of has_donl start (is_set b 6) (with_type high (field b 5 0) ∷ low ∷ []) body)
fragment_is true true packet high low b [] w t s = IsShortStart high low b [] w t s (omega arith) refl
fragment_is true true packet high low b (d ∷ []) w t s = IsShortStart high low b (d ∷ []) w t s (omega arith) refl
fragment_is true true packet high low b (d ∷ e ∷ []) w t s = IsShortStart high low b (d ∷ e ∷ []) w t s (omega arith) refl
fragment_is true true packet high low b (d ∷ e ∷ x ∷ body) w t s = IsNumberedStart high low b d e (x ∷ body) w t s (omega arith) refl
fragment_is true false packet high low b [] w t s = IsShortFragment high low b w t s refl
fragment_is true false packet high low b (x ∷ body) w t s = IsFragment high low b (x ∷ body) w t s (omega arith) (rw s refl)
fragment_is false true packet high low b [] w t s = IsShortFragment high low b w t refl refl
fragment_is false true packet high low b (x ∷ body) w t s = IsFragment high low b (x ∷ body) w t refl (omega arith) (rw s refl)
fragment_is false false packet high low b [] w t s = IsShortFragment high low b w t refl refl
fragment_is false false packet high low b (x ∷ body) w t s = IsFragment high low b (x ∷ body) w t refl (omega arith) (rw s refl)

-- a PACI by what stands behind its extension
behind_is : (has_donl : Bool) (packet : List ℕ) (high low a b : ℕ) (bytes body : List ℕ) → IsWhole packet high low (a ∷ b ∷ bytes) → type_of high ≡ 50 →
    drop (field (a * 256 + b) 8 4) bytes ≡ body → IsReading has_donl packet (paci_behind high low (a * 256 + b) (take (field (a * 256 + b) 8 4) bytes) body)
behind_is has_donl packet high low a b bytes [] w t is =
    let l = length-drop (field (a * 256 + b) 8 4) bytes in let m = ap length is in IsShortPaci high low a b bytes w t (omega (arith, l, m)) refl
behind_is has_donl packet high low a b bytes (x ∷ body) w t is =
    let l = length-drop (field (a * 256 + b) 8 4) bytes in let m = ap length is in let k = length-take (field (a * 256 + b) 8 4) bytes in
    let whole : bytes ≡ take (field (a * 256 + b) 8 4) bytes ++ (x ∷ body) =
    sym (take-append-drop (field (a * 256 + b) 8 4) bytes) ∙ ap (λ (r : List ℕ). take (field (a * 256 + b) 8 4) bytes ++ r) is in
    IsPaci high low a b (take (field (a * 256 + b) 8 4) bytes) (x ∷ body)
    (record { whole = w.whole ∙ ap (λ (r : List ℕ). high ∷ low ∷ a ∷ b ∷ r) whole; some = omega arith; clear = w.clear })
    t (omega (arith, l, m, k)) (omega arith) refl

-- a PACI
paci_is : (has_donl : Bool) (packet : List ℕ) (high low : ℕ) (rest : List ℕ) → IsWhole packet high low rest → type_of high ≡ 50 → IsReading has_donl packet (paci_of high low rest)
paci_is has_donl packet high low [] w t = let s = w.some in absurd (omega arith)
paci_is has_donl packet high low (a ∷ []) w t = IsPaciWithoutFields high low a w t refl
paci_is has_donl packet high low (a ∷ b ∷ bytes) w t = behind_is has_donl packet high low a b bytes (drop (field (a * 256 + b) 8 4) bytes) w t refl

-- a type is 48, 49 or 50 or a unit's own
other_type : (t : ℕ) → eqb t 48 ≡ false → eqb t 49 ≡ false → eqb t 50 ≡ false → IsUnitType t
other_type t a b c = elim (nat_le t 47) as (λ x. nat_le t 47 ≡ x → IsUnitType t) [
  | true ↦ λ h. inl (grind (arith, nat_tests))
  | false ↦ λ h. inr (grind (arith, nat_tests))
] refl

-- a packet with F clear and a byte or more behind its header
whole : (high low : ℕ) (rest : List ℕ) → 1 ≤ length rest → is_set high 7 ≡ false → IsWhole (high ∷ low ∷ rest) high low rest
whole high low rest some clear = record { whole = refl; some = some; clear = clear }

-- the reading that is computed is one by a rule
pub has_reading : (has_donl : Bool) (packet : List ℕ) → IsReading has_donl packet (read has_donl packet)
has_reading has_donl = by_kind (h265_rules has_donl) (IsReading has_donl) (λ packet short. IsShort short refl)
    (λ high low rest some f. IsCorrupted high low rest refl some f refl)
    (λ high low rest some f type. aggregate_is has_donl (high ∷ low ∷ rest) high low rest (whole high low rest some f) type)
    (λ high low b body f type. fragment_is has_donl (is_set b 7) (high ∷ low ∷ b ∷ body) high low b body (whole high low (b ∷ body) (omega arith) f) type refl)
    (λ high low rest some f x y. elim (eqb (type_of high) 50) as (λ z. eqb (type_of high) 50 ≡ z →
    IsReading has_donl (high ∷ low ∷ rest) (cond z (paci_of high low rest) (two_byte_single has_donl high low rest))) [
      | true ↦ λ z. paci_is has_donl (high ∷ low ∷ rest) high low rest (whole high low rest some f) (eqb-true (type_of high) 50 z)
      | false ↦ λ z. single_is has_donl (high ∷ low ∷ rest) high low rest (whole high low rest some f) (other_type (type_of high) x y z) refl
    ] refl)
