-- Start codes by place, and the units behind them.
use Rattle.std.proofs.Common.{◌≡◌, ℕ, zero, suc, ◌+◌, ◌-◌, ◌<◌, ◌≤◌, min, true, false, cond, List, [], ◌∷◌, ◌++◌, refl, sym, ap, ◌∙◌, arith, get_or, drop, take, length, add-one, drop-cons, append_assoc, Some, None}
use Rattle.std.specs.Prelude.{filter}
use Rattle.std.proofs.Math.Seq.{take-suc}
use Rattle.std.proofs.lemmas.List.{append-nil, length-drop, length-take, drop-drop, get_or-drop, take-append-drop, take_all}
use Rattle.h26x_cut.specs.declared.ZeroRule.{ZeroRule}
use Rattle.h26x_cut.specs.Cutting.{begins_code, behind_first_code, cut_at, cut_of, trimmed_by, trimmed, without_zeros, without_zero, trimmed_but_last, units_of_segments, units_of}
use Rattle.h26x_cut.specs.Slices.{IsFirstCode, units_behind}
use Rattle.h26x_core.specs.ByteStream.{is_not_empty}
use Rattle.h26x_cut.proofs.CuttingLemmas.{begins_with, without_zero_of}

-- where a start code begins stand 00, 00 and 01
zeros_and_one : (rest : List ℕ) → begins_code rest ≡ true → (get_or rest 0 0 ≡ 0) × (get_or rest 1 0 ≡ 0) × (get_or rest 2 0 ≡ 1)
zeros_and_one rest e = let (behind, same) = begins_with rest e in rw same (refl, refl, refl)

-- where 00, 00 and 01 stand a start code begins
begins_now : (rest : List ℕ) → get_or rest 0 0 ≡ 0 → get_or rest 1 0 ≡ 0 → get_or rest 2 0 ≡ 1 → begins_code rest ≡ true
begins_now [] e f g = absurd (omega arith)
begins_now (zero ∷ []) e f g = absurd (omega arith)
begins_now (suc b ∷ []) e f g = absurd (omega arith)
begins_now (zero ∷ zero ∷ []) e f g = absurd (omega arith)
begins_now (zero ∷ suc c ∷ []) e f g = absurd (omega arith)
begins_now (suc b ∷ c ∷ []) e f g = absurd (omega arith)
begins_now (zero ∷ zero ∷ zero ∷ p) e f g = absurd (omega arith)
begins_now (zero ∷ zero ∷ suc zero ∷ p) e f g = refl
begins_now (zero ∷ zero ∷ suc (suc d) ∷ p) e f g = absurd (omega arith)
begins_now (zero ∷ suc c ∷ d ∷ p) e f g = absurd (omega arith)
begins_now (suc b ∷ c ∷ d ∷ p) e f g = absurd (omega arith)

-- the test of the bytes at a place
pub begins_at : (bytes : List ℕ) (i : ℕ) → get_or bytes i 0 ≡ 0 → get_or bytes (i + 1) 0 ≡ 0 → get_or bytes (i + 2) 0 ≡ 1 → begins_code (drop i bytes) ≡ true
begins_at bytes i e f g = begins_now (drop i bytes) (get_or-drop i bytes 0 0 ∙ ap (λ k. get_or bytes k 0) (omega arith) ∙ e) (get_or-drop i bytes 1 0 ∙ f) (get_or-drop i bytes 2 0 ∙ g)

-- at a place where one of the three bytes differs none begins
pub begins_not : (bytes : List ℕ) (i : ℕ) → ((get_or bytes i 0 ≡ 0) × (get_or bytes (i + 1) 0 ≡ 0) × (get_or bytes (i + 2) 0 ≡ 1) → ⊥) → begins_code (drop i bytes) ≡ false
begins_not bytes i differs = elim (begins_code (drop i bytes)) as (λ t. begins_code (drop i bytes) ≡ t → t ≡ false) [
  | true ↦ λ h. let (e, f, g) = zeros_and_one (drop i bytes) h in
      absurd (differs (ap (λ k. get_or bytes k 0) (omega arith) ∙ sym (get_or-drop i bytes 0 0) ∙ e, sym (get_or-drop i bytes 1 0) ∙ f, sym (get_or-drop i bytes 2 0) ∙ g))
  | false ↦ λ _. refl
] refl

-- a start code at the beginning cuts bytes into nothing and what stands behind it
cuts_here : (rest : List ℕ) → begins_code rest ≡ true → (3 ≤ length rest) × (cut_of rest ≡ ([], (cut_of (drop 3 rest)).0 ∷ (cut_of (drop 3 rest)).1))
cuts_here rest e = let (behind, same) = begins_with rest e in rw same (omega arith, refl)

-- fewer than three bytes are one segment
cuts_short : (rest : List ℕ) → length rest < 3 → cut_of rest ≡ (rest, [])
cuts_short [] h = refl
cuts_short (zero ∷ []) h = refl
cuts_short (suc b ∷ []) h = refl
cuts_short (zero ∷ zero ∷ []) h = refl
cuts_short (zero ∷ suc c ∷ []) h = refl
cuts_short (suc b ∷ zero ∷ []) h = refl
cuts_short (suc b ∷ suc c ∷ []) h = refl
cuts_short (b ∷ c ∷ d ∷ p) h = absurd (omega arith)

-- no start code begins before a place
unfoldable pub CutsFrom : List ℕ → ℕ → Type 0
CutsFrom bytes i = cut_of bytes ≡ (take i bytes ++ (cut_of (drop i bytes)).0, (cut_of (drop i bytes)).1)

-- none begins before place 0
pub from_start : (bytes : List ℕ) → CutsFrom bytes 0
unfolding CutsFrom
from_start bytes = refl

-- a byte at which no start code begins belongs to the first segment
cut_next : (b : ℕ) (rest : List ℕ) → begins_code (b ∷ rest) ≡ false → cut_of (b ∷ rest) ≡ (b ∷ (cut_of rest).0, (cut_of rest).1)
cut_next b rest none = ap (λ t. cut_at t b (cut_of rest)) none

-- where none begins at a place either, none begins before the next
pub from_next : (bytes : List ℕ) (i : ℕ) → i < length bytes → begins_code (drop i bytes) ≡ false → CutsFrom bytes i → CutsFrom bytes (i + 1)
unfolding CutsFrom
from_next bytes i within none so_far =
    let here = drop-cons bytes i 0 within in
    let cut = cut_next (get_or bytes i 0) (drop (suc i) bytes) (rw here at none) in
    so_far ∙ (rw (here, cut, add-one, take-suc bytes i 0 within) (ap (λ (x : List ℕ). (x, (cut_of (drop (suc i) bytes)).1)) (sym (append_assoc (take i bytes) (get_or bytes i 0 ∷ []) (cut_of (drop (suc i) bytes)).0))))

-- the first place at which one begins, with none before
pub first_found : (bytes : List ℕ) (i : ℕ) → begins_code (drop i bytes) ≡ true → CutsFrom bytes i → IsFirstCode bytes (Some i)
unfolding CutsFrom
first_found bytes i begins so_far =
    let (long, cut) = cuts_here (drop i bytes) begins in
    let most : 3 ≤ length bytes - i = rw length-drop at long in
    (omega arith, so_far ∙ (rw cut (rw (drop-drop 3 i bytes, append-nil (take i bytes)) refl)))

-- none begins before a place with fewer than three bytes left: there is none
pub none_found : (bytes : List ℕ) (i : ℕ) → length bytes < i + 3 → CutsFrom bytes i → IsFirstCode bytes None
unfolding CutsFrom
none_found bytes i short so_far =
    let cut = cuts_short (drop i bytes) (rw length-drop (omega arith)) in
    so_far ∙ (rw cut (ap (λ (x : List ℕ). (x, [])) (take-append-drop i bytes)))

-- of two segments or more the units are those of all but the first
pub more_than_one : (rule : ZeroRule) (before segment : List ℕ) (segments : List (List ℕ)) → units_of_segments (before ∷ trimmed_but_last rule segment segments) ≡ filter is_not_empty (trimmed_but_last rule segment segments)
more_than_one rule before segment [] = refl
more_than_one rule before segment (second ∷ segments) = refl

-- what stands behind the first start code has the units of the payload
pub units_from : (rule : ZeroRule) (bytes : List ℕ) (place : ℕ) → IsFirstCode bytes (Some place) → units_behind rule (drop (place + 3) bytes) ≡ units_of rule bytes
units_from rule bytes place (long, cut) = rw cut (sym (more_than_one rule (trimmed rule (take place bytes)) (cut_of (drop (place + 3) bytes)).0 (cut_of (drop (place + 3) bytes)).1))

-- a payload without a start code is its one unit
pub units_whole : (rule : ZeroRule) (bytes : List ℕ) → IsFirstCode bytes None → units_behind rule bytes ≡ units_of rule bytes
units_whole rule bytes cut = rw cut refl

-- the zeros at a segment's end, by place
zero_last : (xs : List ℕ) → without_zeros (xs ++ 0 ∷ []) ≡ without_zeros xs
zero_last [] = refl
zero_last (b ∷ xs) = ap (trimmed_by b) (zero_last xs)

-- a byte before others stays
kept_by : (b c : ℕ) (xs : List ℕ) → trimmed_by b (c ∷ xs) ≡ b ∷ c ∷ xs
kept_by zero c xs = refl
kept_by (suc b) c xs = refl

-- bytes that end in no zero keep their end
other_last : (xs : List ℕ) (b : ℕ) → without_zeros (xs ++ suc b ∷ []) ≡ xs ++ suc b ∷ []
other_last [] b = refl
other_last (a ∷ []) b = kept_by a (suc b) []
other_last (a ∷ c ∷ xs) b = ap (trimmed_by a) (other_last (c ∷ xs) b) ∙ kept_by a c (xs ++ suc b ∷ [])

-- bytes up to a place are those before their last, and this one
to_last : (xs : List ℕ) (end : ℕ) → 0 < end → end ≤ length xs → take end xs ≡ take (end - 1) xs ++ get_or xs (end - 1) 0 ∷ []
to_last xs end some within = let same : end ≡ suc (end - 1) = omega arith in ap (λ k. take k xs) same ∙ take-suc xs (end - 1) 0 (omega arith)

-- a zero at the end may be left out before all zeros are
pub one_zero_less : (xs : List ℕ) (end : ℕ) → 0 < end → end ≤ length xs → get_or xs (end - 1) 0 ≡ 0 → without_zeros (take (end - 1) xs) ≡ without_zeros (take end xs)
one_zero_less xs end some within zero_there = sym (ap without_zeros (to_last xs end some within ∙ ap (λ b. take (end - 1) xs ++ b ∷ []) zero_there) ∙ zero_last (take (end - 1) xs))

-- a last byte that is no zero stays
with_last : (xs : List ℕ) (b : ℕ) → (b ≡ 0 → ⊥) → without_zeros (xs ++ b ∷ []) ≡ xs ++ b ∷ []
with_last xs zero other = absurd (other refl)
with_last xs (suc b) other = other_last xs b

-- where the last byte is no zero nothing is taken off
pub no_zero_last : (xs : List ℕ) (end : ℕ) → 0 < end → end ≤ length xs → (get_or xs (end - 1) 0 ≡ 0 → ⊥) → without_zeros (take end xs) ≡ take end xs
no_zero_last xs end some within other = let e = to_last xs end some within in rw e (with_last (take (end - 1) xs) (get_or xs (end - 1) 0) other)

-- bytes are those before their last, and this one
whole : (xs : List ℕ) → 0 < length xs → xs ≡ take (length xs - 1) xs ++ get_or xs (length xs - 1) 0 ∷ []
whole xs some = sym (take_all (length xs) xs (omega arith)) ∙ to_last xs (length xs) some (omega arith)

-- by place: where the last byte is a zero all but it are left
pub zero_off : (xs : List ℕ) → 0 < length xs → get_or xs (length xs - 1) 0 ≡ 0 → take (length xs - 1) xs ≡ without_zero xs
zero_off xs some last = let e : xs ≡ take (length xs - 1) xs ++ 0 ∷ [] = whole xs some ∙ ap (λ b. take (length xs - 1) xs ++ b ∷ []) last in
    sym (ap without_zero e ∙ without_zero_of (take (length xs - 1) xs))

-- a last byte that is no zero is not taken off
other_kept : (xs : List ℕ) (b : ℕ) → (b ≡ 0 → ⊥) → without_zero (xs ++ b ∷ []) ≡ xs ++ b ∷ []
other_kept [] zero other = absurd (other refl)
other_kept [] (suc b) other = refl
other_kept (a ∷ []) b other = ap (λ (x : List ℕ). a ∷ x) (other_kept [] b other)
other_kept (a ∷ c ∷ xs) b other = ap (λ (x : List ℕ). a ∷ x) (other_kept (c ∷ xs) b other)

-- by place: where the last byte is no zero all are left
pub none_off : (xs : List ℕ) → 0 < length xs → (get_or xs (length xs - 1) 0 ≡ 0 → ⊥) → without_zero xs ≡ xs
none_off xs some other = let e = whole xs some in ap without_zero e ∙ other_kept (take (length xs - 1) xs) (get_or xs (length xs - 1) 0) other ∙ sym e

-- nothing is taken off no bytes
pub empty_off : (xs : List ℕ) → length xs ≤ 0 → xs ≡ without_zero xs
empty_off [] h = refl
empty_off (b ∷ xs) h = absurd (omega arith)

-- where every byte is a zero none is left
pub none_at_all : (xs : List ℕ) (end : ℕ) → end ≤ 0 → without_zeros (take end xs) ≡ without_zeros xs → take end xs ≡ without_zeros xs
none_at_all xs zero h same = same
none_at_all xs (suc end) h same = absurd (omega arith)

-- a zero behind bytes whose last zeros were counted is one more
pub zero_counted : (xs : List ℕ) (place count : ℕ) → place < length xs → count ≤ place → get_or xs place 0 ≡ 0 → take (place - count) xs ≡ without_zeros (take place xs) → take (place + 1 - (count + 1)) xs ≡ without_zeros (take (place + 1) xs)
zero_counted xs place count within most here same =
    let before : place ≡ place + 1 - 1 = omega arith in
    ap (λ k. take k xs) (omega arith) ∙ same ∙ ap (λ k. without_zeros (take k xs)) before ∙ one_zero_less xs (place + 1) (omega arith) (omega arith) (ap (λ k. get_or xs k 0) (sym before) ∙ here)

-- behind a byte that is no zero none is counted
pub none_counted : (xs : List ℕ) (place : ℕ) → place < length xs → (get_or xs place 0 ≡ 0 → ⊥) → take (place + 1 - 0) xs ≡ without_zeros (take (place + 1) xs)
none_counted xs place within other =
    let before : place ≡ place + 1 - 1 = omega arith in
    ap (λ k. take k xs) (omega arith) ∙ sym (no_zero_last xs (place + 1) (omega arith) (omega arith) (λ e. other (ap (λ k. get_or xs k 0) before ∙ e)))

-- a byte before others is one more at most
one_more : (b : ℕ) (rest : List ℕ) → length (trimmed_by b rest) ≤ length rest + 1
one_more zero [] = omega arith
one_more zero (c ∷ rest) = omega arith
one_more (suc b) rest = omega arith

-- without zeros at the end bytes are not more
not_more : (xs : List ℕ) → length (without_zeros xs) ≤ length xs
not_more [] = omega arith
not_more (b ∷ xs) = let front = one_more b (without_zeros xs) in let rest = not_more xs in omega arith

-- where no zero is taken off the last byte is none
last_is_none : (xs : List ℕ) → 0 < length xs → without_zeros xs ≡ xs → get_or xs (length xs - 1) 0 ≡ 0 → ⊥
last_is_none xs some same last =
    let all : without_zeros (take (length xs) xs) ≡ xs = ap without_zeros (take_all (length xs) xs (omega arith)) ∙ same in
    let long : length (without_zeros (take (length xs - 1) xs)) ≡ length xs = ap length (one_zero_less xs (length xs) some (omega arith) last ∙ all) in
    let short = not_more (take (length xs - 1) xs) in
    let front = length-take (length xs - 1) xs in
    absurd (omega arith)

-- where one zero or more is taken off the last byte is one
last_is_zero : (xs : List ℕ) (count : ℕ) → 0 < count → 0 < length xs → take (length xs - count) xs ≡ without_zeros xs → get_or xs (length xs - 1) 0 ≡ 0
last_is_zero xs count more some same = elim (get_or xs (length xs - 1) 0) as (λ b. get_or xs (length xs - 1) 0 ≡ b → b ≡ 0) [
  | zero ↦ λ _. refl
  | suc b ↦ λ is.
      let all = take_all (length xs) xs (omega arith) in
      let kept = no_zero_last xs (length xs) some (omega arith) (λ e. absurd (omega (arith, sym is ∙ e))) in
      let long : take (length xs - count) xs ≡ xs = same ∙ ap without_zeros (sym all) ∙ kept ∙ all in
      let same_length = ap length long in
      let short = length-take (length xs - count) xs in
      absurd (omega arith)
] refl

-- of the zeros at the end one is taken off, if there is one
pub one_taken : (xs : List ℕ) (count : ℕ) → count ≤ length xs → take (length xs - count) xs ≡ without_zeros xs → take (length xs - min count 1) xs ≡ without_zero xs
one_taken [] count within same = take_all (0 - min count 1) [] (omega arith)
one_taken (b ∷ xs) zero within same =
    let all = take_all (length (b ∷ xs) - 0) (b ∷ xs) (omega arith) in
    all ∙ sym (none_off (b ∷ xs) (omega arith) (last_is_none (b ∷ xs) (omega arith) (sym same ∙ all)))
one_taken (b ∷ xs) (suc count) within same =
    let one : min (suc count) 1 ≡ 1 = omega arith in
    ap (λ n. take (length (b ∷ xs) - n) (b ∷ xs)) one ∙ zero_off (b ∷ xs) (omega arith) (last_is_zero (b ∷ xs) (suc count) (omega arith) (omega arith) same)

-- where none begins nothing stands behind one
pub none_behind : (bytes : List ℕ) → IsFirstCode bytes None → behind_first_code bytes ≡ None
none_behind [] is = refl
none_behind (b ∷ bytes) is = elim (begins_code (b ∷ bytes)) as (λ t. begins_code (b ∷ bytes) ≡ t → cut_at t b (cut_of bytes) ≡ (b ∷ bytes, []) → cond t (Some (drop 2 bytes)) (behind_first_code bytes) ≡ None) [
  | true ↦ λ e cut. absurd (let bad = ap (λ (x : List ℕ × List (List ℕ)). x.1) cut in cc)
  | false ↦ λ e cut.
      let first : (cut_of bytes).0 ≡ bytes = ap (λ (x : List ℕ × List (List ℕ)). drop 1 x.0) cut in
      let others : (cut_of bytes).1 ≡ [] = ap (λ (x : List ℕ × List (List ℕ)). x.1) cut in
      none_behind bytes (ap (λ (x : List ℕ). (x, (cut_of bytes).1)) first ∙ ap (λ (x : List (List ℕ)). (bytes, x)) others)
] refl is

-- what stands behind the first one, by its place
pub some_behind : (bytes : List ℕ) (place : ℕ) → IsFirstCode bytes (Some place) → behind_first_code bytes ≡ Some (drop (place + 3) bytes)
some_behind [] place is = absurd (let long = is.0 in omega (arith, long))
some_behind (b ∷ bytes) place is = elim (begins_code (b ∷ bytes)) as (λ t. begins_code (b ∷ bytes) ≡ t →
    cut_at t b (cut_of bytes) ≡ (take place (b ∷ bytes), (cut_of (drop (place + 3) (b ∷ bytes))).0 ∷ (cut_of (drop (place + 3) (b ∷ bytes))).1) →
    cond t (Some (drop 2 bytes)) (behind_first_code bytes) ≡ Some (drop (place + 3) (b ∷ bytes))) [
      | true ↦ λ e cut. at_once place (ap (λ (x : List ℕ × List (List ℕ)). x.0) cut)
      | false ↦ λ e cut. later place is.0 cut (λ k at. some_behind bytes k at)
    ] refl is.1
  where
    at_once : (place : ℕ) → [] ≡ take place (b ∷ bytes) → Some (drop 2 bytes) ≡ Some (drop (place + 3) (b ∷ bytes))
    at_once zero none = refl
    at_once (suc place) none = absurd (let bad = none in cc)

    later : (place : ℕ) → place + 3 ≤ length (b ∷ bytes) → ◌≡◌ {A = List ℕ × List (List ℕ)} (b ∷ (cut_of bytes).0, (cut_of bytes).1) (take place (b ∷ bytes), (cut_of (drop (place + 3) (b ∷ bytes))).0 ∷ (cut_of (drop (place + 3) (b ∷ bytes))).1) →
        ((k : ℕ) → IsFirstCode bytes (Some k) → behind_first_code bytes ≡ Some (drop (k + 3) bytes)) → behind_first_code bytes ≡ Some (drop (place + 3) (b ∷ bytes))
    later zero long cut rest = absurd (let bad = ap (λ (x : List ℕ × List (List ℕ)). x.0) cut in cc)
    later (suc place) long cut rest =
        let first : (cut_of bytes).0 ≡ take place bytes = ap (λ (x : List ℕ × List (List ℕ)). drop 1 x.0) cut in
        let one_more : suc place + 3 ≡ suc (place + 3) = omega arith in
        let same : drop (suc place + 3) (b ∷ bytes) ≡ drop (place + 3) bytes = ap (λ (k : ℕ). drop k (b ∷ bytes)) one_more in
        let others : (cut_of bytes).1 ≡ (cut_of (drop (place + 3) bytes)).0 ∷ (cut_of (drop (place + 3) bytes)).1 = ap (λ (x : List ℕ × List (List ℕ)). x.1) cut ∙ ap (λ (r : List ℕ). (cut_of r).0 ∷ (cut_of r).1) same in
        rest place (omega (arith, long), ap (λ (x : List ℕ). (x, (cut_of bytes).1)) first ∙ ap (λ (x : List (List ℕ)). (take place bytes, x)) others) ∙ ap (λ (r : List ℕ). Some r) (sym same)
