-- The first place at which `00 00 01` stands is where the first start code begins, and each stands
-- before a mark, `01`.
use Rattle.std.proofs.Common.{◌≡◌, ℕ, zero, suc, ◌+◌, ◌-◌, ◌<◌, ◌≤◌, List, Some, None, ap, sym, ◌∙◌, arith, eqb, true, get_or, drop, length, subst, add-one, ⊎_elim}
use Rattle.std.proofs.lemmas.Bool.{cases_lt, eqb-true}
use Rattle.std.proofs.lemmas.List.{get_or-drop, get_or_past, length-drop}
use Rattle.memchr.specs.Find.{FindsNeedle, IsFirstByte, OccursAt, is_byte}
use Rattle.h26x_cut.specs.Search.{AreZeros, HasNoCode, IsCodeAt, IsNextMark}
use Rattle.h26x_cut.specs.Slices.{IsFirstCode, code}
use Rattle.h26x_cut.proofs.SliceLemmas.{CutsFrom, begins_at, begins_not, from_start, from_next, first_found, none_found}

-- none before a place, and none from there on up to another
pub none_joined : (bytes : List ℕ) (from place to : ℕ) → HasNoCode bytes from place → HasNoCode bytes place to → HasNoCode bytes from to
none_joined bytes from place to before behind k low high is =
    ⊎_elim (λ (near : k < place). before k low near is) (λ (far : place ≤ k). behind k far high is) (cases_lt k place)

-- none stands where its mark would stand behind the bytes
past : (bytes : List ℕ) (k : ℕ) → length bytes ≤ k + 2 → ¬ IsCodeAt bytes k
past bytes k out is = absurd (omega (arith, sym (get_or_past bytes (k + 2) 0 out) ∙ is.mark))

-- none stands so near the end
pub none_at_end : (bytes : List ℕ) (place : ℕ) → length bytes < place + 2 → HasNoCode bytes place (length bytes)
none_at_end bytes place near k low high is = past bytes k (omega arith) is

-- where the three bytes stand they stand among the bytes
pub code_fits : (bytes : List ℕ) (k : ℕ) → IsCodeAt bytes k → k + 3 ≤ length bytes
code_fits bytes k is = ⊎_elim (λ (near : k + 2 < length bytes). omega arith) (λ (out : length bytes ≤ k + 2). absurd (past bytes k out is)) (cases_lt (k + 2) (length bytes))

-- no start code begins before a place up to which none stands
cuts_from : (bytes : List ℕ) (n : ℕ) → n ≤ length bytes → HasNoCode bytes 0 n → CutsFrom bytes n
cuts_from bytes zero within none = from_start bytes
cuts_from bytes (suc n) within none =
    subst (CutsFrom bytes) (add-one n)
    (from_next bytes n (omega arith) (begins_not bytes n (λ (a, b, d). none n (omega arith) (omega arith) (record { first = a; second = b; mark = d })))
    (cuts_from bytes n (omega arith) (λ k low high. none k low (omega arith))))

-- where none stands in the bytes they have no start code
pub none_is : (bytes : List ℕ) → HasNoCode bytes 0 (length bytes) → IsFirstCode bytes None
none_is bytes none = none_found bytes (length bytes) (omega arith) (cuts_from bytes (length bytes) (omega arith) none)

-- the first that stands in them is the first start code
pub first_is : (bytes : List ℕ) (place : ℕ) → HasNoCode bytes 0 place → IsCodeAt bytes place → IsFirstCode bytes (Some place)
first_is bytes place none is =
    let fits = code_fits bytes place is in
    first_found bytes place (begins_at bytes place is.first is.second is.mark) (cuts_from bytes place (omega arith) none)

-- a start code's mark is a byte 01 behind the place
mark_behind : (bytes : List ℕ) (place at : ℕ) → place ≤ at → IsCodeAt bytes at → eqb (get_or (drop (place + 2) bytes) (at - place) 0) 1 ≡ true
mark_behind bytes place at low is =
    ap (λ b. eqb b 1) (get_or-drop (place + 2) bytes (at - place) 0 ∙ ap (λ n. get_or bytes n 0) (omega arith) ∙ is.mark)

-- what memchr tells of the bytes 01
pub no_mark : (bytes : List ℕ) (place : ℕ) → IsFirstByte (is_byte 1) (drop (place + 2) bytes) None → IsNextMark bytes place None
no_mark bytes place none at from to is =
    let long = length-drop (place + 2) bytes in
    let fits = code_fits bytes at is in
    none (at - place) (omega arith) (omega (arith, long, fits)) (mark_behind bytes place at from is)

pub next_is : (bytes : List ℕ) (place near : ℕ) → IsFirstByte (is_byte 1) (drop (place + 2) bytes) (Some near) → IsNextMark bytes place (Some (place + 2 + near))
next_is bytes place near (first, one) =
    let long = length-drop (place + 2) bytes in
    let high = first.high in (
      omega arith,
      omega (arith, long, high),
      sym (get_or-drop (place + 2) bytes near 0) ∙ eqb-true _ _ one,
      λ at from to is. first.before (at - place) (omega arith) (omega arith) (mark_behind bytes place at from is),
    )

-- a mark behind two zeros is a start code's
pub code_by_mark : (bytes : List ℕ) (place mark : ℕ) → IsNextMark bytes place (Some mark) → AreZeros bytes (mark - 2) → IsCodeAt bytes (mark - 2)
code_by_mark bytes place mark (from, within, one, none) (first, second) =
    record { first = first; second = second; mark = ap (λ n. get_or bytes n 0) (omega arith) ∙ one }

-- a byte is not two
not_both : (bytes : List ℕ) (n mark : ℕ) → n ≡ mark → get_or bytes mark 0 ≡ 1 → ¬ (get_or bytes n 0 ≡ 0)
not_both bytes n mark same one none = let e = ap (λ k. get_or bytes k 0) same in absurd (omega (arith, e, one, none))

-- where no zeros stand before a mark none stands there, and none begins with the mark or the byte before it
pub none_by_mark : (bytes : List ℕ) (place mark : ℕ) → HasNoCode bytes 0 place → IsNextMark bytes place (Some mark) → ¬ AreZeros bytes (mark - 2) → HasNoCode bytes 0 (mark + 1)
none_by_mark bytes place mark before (from, within, one, none) apart k low high is =
    ⊎_elim
    (λ (near : k < mark - 2). none_joined bytes 0 place (mark - 2) before none k low near is)
    (λ (far : mark - 2 ≤ k). ⊎_elim
    (λ (here : k < mark - 1).
    let same : mark - 2 ≡ k = omega arith in
    apart (ap (λ n. get_or bytes n 0) same ∙ is.first, ap (λ n. get_or bytes (n + 1) 0) same ∙ is.second))
    (λ (past : mark - 1 ≤ k). ⊎_elim
    (λ (last : k < mark). not_both bytes (k + 1) mark (omega arith) one is.second)
    (λ (at : mark ≤ k). not_both bytes k mark (omega arith) one is.first)
    (cases_lt k mark))
    (cases_lt k (mark - 1)))
    (cases_lt k (mark - 2))

-- the bytes behind a place, by their places among all
byte_behind : (bytes : List ℕ) (place k j : ℕ) → get_or (drop place bytes) (k + j) 0 ≡ get_or bytes (place + k + j) 0
byte_behind bytes place k j = get_or-drop place bytes (k + j) 0 ∙ ap (λ n. get_or bytes n 0) (omega arith)

-- what occurs behind a place stands there
occurs_stands : (bytes : List ℕ) (place k : ℕ) → OccursAt (drop place bytes) code k → IsCodeAt bytes (place + k)
occurs_stands bytes place k o = record {
  first = ap (λ n. get_or bytes n 0) (omega arith) ∙ sym (byte_behind bytes place k 0) ∙ o.reads 0 (omega arith);
  second = sym (byte_behind bytes place k 1) ∙ o.reads 1 (omega arith);
  mark = sym (byte_behind bytes place k 2) ∙ o.reads 2 (omega arith);
}

-- the bytes of a needle of three, place by place
three_bytes : (bytes : List ℕ) (place k j : ℕ) → j < 3 → IsCodeAt bytes (place + k) → get_or (drop place bytes) (k + j) 0 ≡ get_or code j 0
three_bytes bytes place k zero h is = byte_behind bytes place k 0 ∙ ap (λ n. get_or bytes n 0) (omega arith) ∙ is.first
three_bytes bytes place k (suc zero) h is = byte_behind bytes place k 1 ∙ is.second
three_bytes bytes place k (suc (suc zero)) h is = byte_behind bytes place k 2 ∙ is.mark
three_bytes bytes place k (suc (suc (suc j))) h is = absurd (omega arith)

-- what stands behind a place occurs there
stands_occurs : (bytes : List ℕ) (place k : ℕ) → IsCodeAt bytes (place + k) → OccursAt (drop place bytes) code k
stands_occurs bytes place k is =
    let within = code_fits bytes (place + k) is in
    let long = length-drop place bytes in
    record { fits = omega (arith, within, long); reads = λ j h. three_bytes bytes place k j h is }

-- what memchr tells of whole start codes behind a place up to which there is none
pub none_by_search : (bytes : List ℕ) (place : ℕ) → place ≤ length bytes → HasNoCode bytes 0 place → FindsNeedle (drop place bytes) code 0 None → IsFirstCode bytes None
none_by_search bytes place within none finds =
    let long = length-drop place bytes in
    none_is bytes (none_joined bytes 0 place (length bytes) none
    (λ at from to is.
    let same : at ≡ place + (at - place) = omega arith in
    finds (at - place) (omega arith) (omega (arith, long)) (stands_occurs bytes place (at - place) (subst (IsCodeAt bytes) same is))))

pub first_by_search : (bytes : List ℕ) (place rest : ℕ) → HasNoCode bytes 0 place → FindsNeedle (drop place bytes) code 0 (Some rest) → IsFirstCode bytes (Some (place + rest))
first_by_search bytes place rest none (first, occurs) =
    first_is bytes (place + rest)
    (none_joined bytes 0 place (place + rest) none
    (λ at from to is.
    let same : at ≡ place + (at - place) = omega arith in
    first.before (at - place) (omega arith) (omega arith) (stands_occurs bytes place (at - place) (subst (IsCodeAt bytes) same is))))
    (occurs_stands bytes place rest occurs)
