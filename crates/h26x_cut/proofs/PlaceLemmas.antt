-- Where the units of a payload stand.
use Rattle.std.proofs.Common.{◌≡◌, ℕ, ◌+◌, ◌-◌, ◌<◌, ◌≤◌, List, [], ◌∷◌, ◌++◌, refl, sym, ap, ◌∙◌, ⊎_elim, arith, drop, take, length, length-append, append_assoc, Some}
use Rattle.std.proofs.Math.Seq.{take-append_seam, drop-append_seam, drop-append-add}
use Rattle.std.proofs.lemmas.List.{drop-drop, length-drop, length-take-le}
use Rattle.h26x_cut.specs.declared.ZeroRule.{ZeroRule}
use Rattle.h26x_cut.specs.Cutting.{HoldsStartCode, IsNextUnit, cut_of, trimmed, trimmed_but_last, units_of}
use Rattle.std.specs.Prelude.{filter}
use Rattle.h26x_core.specs.ByteStream.{is_not_empty}
use Rattle.h26x_cut.specs.Slices.{IsFirstCode, units_behind}
use Rattle.h26x_cut.proofs.CuttingLemmas.{FirstCode, first_code_of, cut_next, cut_none, trims}
use Rattle.h26x_cut.proofs.SliceLemmas.{more_than_one, units_from}

-- a start code's place, with what stands before it and behind it
record Stands (bytes : List ℕ) (place : ℕ) : Type 0 where
  whole : bytes ≡ take place bytes ++ 0 ∷ 0 ∷ 1 ∷ drop (place + 3) bytes
  long : length (take place bytes) ≡ place
  never : ¬ HoldsStartCode (take place bytes)

-- so it is where the first one stands at this place
stands_by : (bytes : List ℕ) (place : ℕ) → place + 3 ≤ length bytes → (r : FirstCode bytes) → r.front ≡ take place bytes → Stands bytes place
stands_by bytes place long r same =
    let front_long : length (take place bytes) ≡ place = length-take-le place bytes (omega arith) in
    let whole : bytes ≡ take place bytes ++ 0 ∷ 0 ∷ 1 ∷ r.rest = r.whole ∙ ap (λ (x : List ℕ). x ++ 0 ∷ 0 ∷ 1 ∷ r.rest) same in
    let behind : drop (place + 3) bytes ≡ r.rest =
    ap (drop (place + 3)) whole ∙ ap (λ n. drop (n + 3) (take place bytes ++ 0 ∷ 0 ∷ 1 ∷ r.rest)) (sym front_long) ∙ drop-append-add (take place bytes) (0 ∷ 0 ∷ 1 ∷ r.rest) 3 in
    record {
      whole = whole ∙ ap (λ (x : List ℕ). take place bytes ++ 0 ∷ 0 ∷ 1 ∷ x) (sym behind);
      long = front_long;
      never = rw (← same) r.never;
    }

stands : (bytes : List ℕ) (place : ℕ) → IsFirstCode bytes (Some place) → Stands bytes place
stands bytes place (long, cut) =
    ⊎_elim
    (λ never. let other = ap (λ (c : List ℕ × List (List ℕ)). c.1) (sym (cut_none bytes never) ∙ cut) in absurd cc)
    (λ (r : FirstCode bytes). stands_by bytes place long r
    (ap (λ (c : List ℕ × List (List ℕ)). c.0) (sym (ap cut_of r.whole ∙ cut_next r.front r.rest r.never) ∙ cut)))
    (first_code_of bytes)

-- the end of bytes without a start code has none
not_in_back : (p q : List ℕ) → (¬ HoldsStartCode (p ++ q)) → ¬ HoldsStartCode q
not_in_back p q never (before, after, same) = never (p ++ before, after, ap (λ (x : List ℕ). p ++ x) same ∙ simp append_assoc)

-- the units of bytes that begin with a start code, and zeros before it, are those behind it
units_behind_zeros : (rule : ZeroRule) (zeros rest : List ℕ) → (¬ HoldsStartCode zeros) → units_of rule (zeros ++ 0 ∷ 0 ∷ 1 ∷ rest) ≡ units_behind rule rest
units_behind_zeros rule zeros rest never = rw (cut_next zeros rest never) (more_than_one rule (trimmed rule zeros) (cut_of rest).0 (cut_of rest).1)

-- a unit that a start code ends stands at the front, and the other units from its end on
record Front (rule : ZeroRule) (bytes : List ℕ) (place : ℕ) : Type 0 where
  within : length (trimmed rule (take place bytes)) ≤ place
  unit : take (length (trimmed rule (take place bytes))) bytes ≡ trimmed rule (take place bytes)
  left : units_of rule (drop (length (trimmed rule (take place bytes))) bytes) ≡ units_behind rule (drop (place + 3) bytes)

front_unit : (rule : ZeroRule) (bytes : List ℕ) (place : ℕ) → IsFirstCode bytes (Some place) → Front rule bytes place
front_unit rule bytes place is =
    let s = stands bytes place is in
    let unit = trimmed rule (take place bytes) in
    let t = trims rule (take place bytes) in
    let rest = drop (place + 3) bytes in
    let whole : bytes ≡ unit ++ (t.zeros ++ 0 ∷ 0 ∷ 1 ∷ rest) = s.whole ∙ ap (λ (x : List ℕ). x ++ 0 ∷ 0 ∷ 1 ∷ rest) t.whole ∙ simp append_assoc in
    let lengths = ap length t.whole ∙ length-append unit t.zeros in
    let long = s.long in
    let never = not_in_back unit t.zeros (rw (← t.whole) s.never) in
    record {
      within = omega (arith, lengths, long);
      unit = ap (take (length unit)) whole ∙ take-append_seam unit (t.zeros ++ 0 ∷ 0 ∷ 1 ∷ rest);
      left = ap (λ (x : List ℕ). units_of rule (drop (length unit) x)) whole ∙ ap (units_of rule) (drop-append_seam unit (t.zeros ++ 0 ∷ 0 ∷ 1 ∷ rest)) ∙ units_behind_zeros rule t.zeros rest never;
    }

-- a unit that is not empty is kept
kept_first : (unit : List ℕ) (units : List (List ℕ)) → 0 < length unit → filter is_not_empty (unit ∷ units) ≡ unit ∷ filter is_not_empty units
kept_first [] units some = absurd (omega arith)
kept_first (b ∷ unit) units some = refl

-- bytes that end a payload: from their n-th on they are its end too
from_there : (payload left : List ℕ) (n : ℕ) → length left ≤ length payload → left ≡ drop (length payload - length left) payload →
    drop (length payload - length left + n) payload ≡ drop n left
from_there payload left n within end =
    sym (drop-drop n (length payload - length left) payload) ∙ ap (drop n) (sym end)

-- the next unit of a payload, where the start code behind it stands at this place of what is left
pub next_found : (rule : ZeroRule) (payload left : List ℕ) (from place : ℕ) →
    units_behind rule left ≡ units_of rule (drop from payload) → from ≤ length payload - length left → length left ≤ length payload →
    left ≡ drop (length payload - length left) payload → IsFirstCode left (Some place) → 0 < length (trimmed rule (take place left)) →
    IsNextUnit (units_of rule) payload from (length payload - length left) (length payload - length left + length (trimmed rule (take place left)))
next_found rule payload left from place units begins within end is some =
    let f = front_unit rule left place is in
    let begin = length payload - length left in
    let unit = trimmed rule (take place left) in
    let rest = drop (place + 3) left in
    let (long, cut) = is in
    let fits = f.within in
    let first : units_behind rule left ≡ unit ∷ units_behind rule rest = rw cut (kept_first unit (trimmed_but_last rule (cut_of rest).0 (cut_of rest).1) some) in
    record {
      begins = begins;
      ends = omega (arith, some);
      within = omega (arith, long, fits, within);
      units = sym units ∙ first
          ∙ ap (λ (x : List ℕ). x ∷ units_behind rule rest) (sym f.unit ∙ ap (take (length unit)) end ∙ ap (λ k. take k (drop begin payload)) (omega arith))
          ∙ ap (λ (x : List (List ℕ)). take (begin + length unit - begin) (drop begin payload) ∷ x) (sym f.left ∙ ap (units_of rule) (sym (from_there payload left (length unit) within end)));
    }

-- what stands behind the first start code from a place of a payload on
pub record Begun (rule : ZeroRule) (payload left : List ℕ) (from : ℕ) : Type 0 where
  pub units : units_behind rule left ≡ units_of rule (drop from payload)
  pub within : length left ≤ length payload
  pub begins : from ≤ length payload - length left
  pub end : left ≡ drop (length payload - length left) payload

pub begun : (rule : ZeroRule) (payload behind : List ℕ) (from place : ℕ) → behind ≡ drop from payload → from ≤ length payload →
    IsFirstCode behind (Some place) → Begun rule payload (drop (place + 3) behind) from
begun rule payload behind from place same inside is =
    let left = drop (place + 3) behind in
    let rest = ap length same ∙ length-drop from payload in
    let lengths = length-drop (place + 3) behind in
    let long = is.0 in
    record {
      units = units_from rule behind place is ∙ ap (units_of rule) same;
      within = omega (arith, lengths, rest);
      begins = omega (arith, lengths, rest, long);
      end = ap (drop (place + 3)) same ∙ drop-drop (place + 3) from payload ∙ ap (λ n. drop n payload) (omega (arith, lengths, rest, long, inside));
    }
