-- A packet has one reading.
use Rattle.std.proofs.Common.{◌≡◌, ℕ, ◌+◌, ◌*◌, ◌<◌, ◌≤◌, List, [], ◌∷◌, length, take, drop, Option, None, refl, sym, ap, subst, ◌∙◌, arith, ◌⊎◌, inl, inr}
use Rattle.std.specs.Prelude.{◌≢◌, map, filter}
use Rattle.std.proofs.lemmas.Bool.{cases_lt, cases_eq}
use Rattle.std.proofs.lemmas.List.{length-take, take-append-drop}
use Rattle.h26x_core.specs.ByteStream.{is_not_empty}
use Rattle.h26x_core.specs.H264Unit.{type_of}
use Rattle.h26x_model.specs.Payload.Reading.{Reading, Single, Aggregate, without_don}
use Rattle.h26x_core.specs.Pieces.{ArePieces, HasNoPiece, Pieces, pieces_of}
use Rattle.h26x_core.proofs.PieceLemmas.{pieces_are, pieces_short, only_pieces, none_past}
use Rattle.h264_payload.specs.H264.{read, stap_of, aggregate_of, fragment_of}
use Rattle.h264_payload.specs.Reading.{IsReading, IsEmpty, IsUnit, IsStap, IsCutStap, IsFragment, IsShortFragment, IsOtherType}
use Rattle.h264_payload.proofs.HeaderLemmas.{unit_is_read, stap_is_read, fragment_is_read, other_is_read}

-- a length that begins no piece passes the end
passes_end : (high low : ℕ) (left : List ℕ) → HasNoPiece (high ∷ low ∷ left) → length left < high * 256 + low
passes_end high low left none = elim (cases_lt (length left) (high * 256 + low)) [
  | inl past ↦ past
  | inr within ↦
      let n = high * 256 + low in
      let l = length-take n left in
      absurd (none high low (take n left) (drop n left) (ap (λ (x : List ℕ). high ∷ low ∷ x) (sym (take-append-drop n left))) (omega (arith, l)))
]

-- nor does one byte, or none
none_in_one : (left : List ℕ) → length left ≤ 1 → HasNoPiece left
none_in_one left few = subst HasNoPiece (ap (λ (p : Pieces). p.left) (pieces_short left (omega arith))) (pieces_are left).1

-- pieces behind a STAP-A's header, and what is left, are its reading
stap_of_is : (first : ℕ) (rest left : List ℕ) (pieces : List (List ℕ)) → type_of first ≡ 24 → ArePieces rest pieces left → HasNoPiece left →
    IsReading (first ∷ rest) (stap_of (map without_don (filter is_not_empty pieces)) left)
stap_of_is first rest [] pieces is are none = IsStap first rest [] pieces refl is are (omega arith) refl
stap_of_is first rest (x ∷ []) pieces is are none = IsStap first rest (x ∷ []) pieces refl is are (omega arith) refl
stap_of_is first rest (high ∷ low ∷ left) pieces is are none = IsCutStap first high low rest left pieces refl is are (passes_end high low left none) refl

-- so do the bytes behind an FU-A's first
fragment_of_is : (first : ℕ) (rest : List ℕ) → type_of first ≡ 28 → IsReading (first ∷ rest) (fragment_of first rest)
fragment_of_is first [] is = IsShortFragment first refl is refl
fragment_of_is first (second ∷ body) is = IsFragment first second body refl is refl

-- each type has its rule
kinds : (type : ℕ) → ((1 ≤ type) × (type ≤ 23)) ⊎ ((type ≡ 24) ⊎ ((type ≡ 28) ⊎ (((type ≡ 0) ⊎ (23 < type)) × (type ≢ 24) × (type ≢ 28))))
kinds type = elim (cases_lt type 1) [
  | inl low ↦ let none : type ≡ 0 = omega arith in inr (inr (inr (inl none, omega arith, omega arith)))
  | inr least ↦ elim (cases_lt 23 type) [
    | inr most ↦ inl (least, most)
    | inl past ↦ elim (cases_eq type 24) [
      | inl is ↦ inr (inl is)
      | inr no_stap ↦ elim (cases_eq type 28) [
        | inl is ↦ inr (inr (inl is))
        | inr no_fragment ↦ inr (inr (inr (inr past, no_stap, no_fragment)))
      ]
    ]
  ]
]

-- what `read` finds is a reading
pub has_reading : (packet : List ℕ) → IsReading packet (read packet)
has_reading [] = IsEmpty refl refl
has_reading (first ∷ rest) = elim (kinds (type_of first)) [
  | inl (least, most) ↦ rw (unit_is_read first rest least most) (IsUnit first rest refl least most refl)
  | inr (inl is) ↦ let p = pieces_are rest in rw (stap_is_read first rest is) (stap_of_is first rest (pieces_of rest).left (pieces_of rest).whole is p.0 p.1)
  | inr (inr (inl is)) ↦ rw (fragment_is_read first rest is) (fragment_of_is first rest is)
  | inr (inr (inr (other, no_stap, no_fragment))) ↦ rw (other_is_read first rest other no_stap no_fragment) (IsOtherType first rest refl other no_stap no_fragment refl)
]

-- the pieces of a STAP-A give its reading
stap_is : (first : ℕ) (bytes left : List ℕ) (pieces : List (List ℕ)) → type_of first ≡ 24 → ArePieces bytes pieces left → HasNoPiece left →
    read (first ∷ bytes) ≡ stap_of (map without_don (filter is_not_empty pieces)) left
stap_is first bytes left pieces is are none = stap_is_read first bytes is ∙ ap aggregate_of (only_pieces bytes pieces left are none)

-- at most one byte that is left over refuses nothing
few_left : (units : List (List ℕ × Option ℕ)) (left : List ℕ) → length left ≤ 1 → stap_of units left ≡ Aggregate units
few_left units [] few = refl
few_left units (x ∷ []) few = refl
few_left units (x ∷ y ∷ left) few = absurd (omega arith)

-- and there is no other
pub only_reading : (packet : List ℕ) (reading : Reading) → IsReading packet reading → read packet ≡ reading
only_reading packet reading (IsEmpty is r) = ap read is ∙ sym r
only_reading packet reading (IsUnit first rest is least most r) = ap read is ∙ unit_is_read first rest least most ∙ ap (λ (p : List ℕ). Single p None) (sym is) ∙ sym r
only_reading packet reading (IsStap first bytes left pieces is type are few r) =
    ap read is ∙ stap_is first bytes left pieces type are (none_in_one left few) ∙ few_left (map without_don (filter is_not_empty pieces)) left few ∙ sym r
only_reading packet reading (IsCutStap first high low bytes left pieces is type are past r) =
    ap read is ∙ stap_is first bytes (high ∷ low ∷ left) pieces type are (none_past high low left past) ∙ sym r
only_reading packet reading (IsFragment first second body is type r) = ap read is ∙ fragment_is_read first (second ∷ body) type ∙ sym r
only_reading packet reading (IsShortFragment first is type r) = ap read is ∙ fragment_is_read first [] type ∙ sym r
only_reading packet reading (IsOtherType first rest is other no_stap no_fragment r) = ap read is ∙ other_is_read first rest other no_stap no_fragment ∙ sym r
