-- Units behind lengths.
use Rattle.std.proofs.Common.{◌≡◌, ℕ, zero, suc, ◌+◌, ◌-◌, ◌*◌, ◌/◌, ◌%◌, ◌<◌, ◌≤◌, true, List, [], ◌∷◌, ◌++◌, refl, sym, ap, ◌∙◌, arith, take, drop, length, length-append, append_assoc, replicate}
use Rattle.std.proofs.Math.Seq.{drop-append-add, drop-append_seam, take-append_seam}
use Rattle.std.proofs.lemmas.List.{drop-drop, length-take-le, take-append-drop}
use Rattle.std.proofs.lemmas.Grind.{flat_map-append}
use Rattle.h26x_core.specs.ByteStream.{byte_stream, unit_prefix}
use Rattle.h26x_core.specs.Word.{long_word}
use Rattle.h26x_cut.specs.Lengths.{BeginsWithUnit, IsNextAvcUnit}

-- the text is left from a place on, behind lengths of empty units
pub record Left (text left : List ℕ) (from : ℕ) : Type 0 where
  pub within : length left ≤ length text
  pub begins : from ≤ length text - length left
  pub end : left ≡ drop (length text - length left) text
  pub empty : (count : ℕ) × (drop from text ≡ byte_stream true (replicate count []) ++ left)

-- four bytes are the length that they tell
pub four_bytes : (a b c d : ℕ) → a < 256 → b < 256 → c < 256 → d < 256 → (n : ℕ) → n ≡ ((a * 256 + b) * 256 + c) * 256 + d → long_word n ≡ a ∷ b ∷ c ∷ d ∷ []
four_bytes a b c d ha hb hc hd n same =
    let one : n / 16777216 % 256 ≡ a = omega (arith, same) in
    let two : n / 65536 % 256 ≡ b = omega (arith, same) in
    let three : n / 256 % 256 ≡ c = omega (arith, same) in
    let four : n % 256 ≡ d = omega (arith, same) in
    rw (one, two, three, four) refl

-- a length that four bytes hold is one alone of its bytes
pub one_length : (n m : ℕ) → n < 4294967296 → m < 4294967296 → long_word n ≡ long_word m → n ≡ m
one_length n m low low' same =
    let a : n / 16777216 % 256 ≡ m / 16777216 % 256 = cc in
    let b : n / 65536 % 256 ≡ m / 65536 % 256 = cc in
    let d : n / 256 % 256 ≡ m / 256 % 256 = cc in
    let e : n % 256 ≡ m % 256 = cc in
    omega (arith, a, b, d, e)

-- a unit's text is its length and the unit
one_written : (unit rest : List ℕ) → byte_stream true (unit ∷ []) ++ rest ≡ long_word (length unit) ++ (unit ++ rest)
one_written unit rest = simp append_assoc

-- so behind those of empty ones
joined : (count : ℕ) (unit rest : List ℕ) → byte_stream true (replicate count [] ++ unit ∷ []) ++ rest ≡ byte_stream true (replicate count []) ++ (long_word (length unit) ++ (unit ++ rest))
joined count unit rest =
    ap (λ (x : List ℕ). x ++ rest) (flat_map-append (λ it. unit_prefix true it ++ it) (replicate count []) (unit ∷ []))
    ∙ append_assoc (byte_stream true (replicate count [])) (byte_stream true (unit ∷ [])) rest
    ∙ ap (λ (x : List ℕ). byte_stream true (replicate count []) ++ x) (one_written unit rest)

-- what begins with a unit whose length is this
record Here (n : ℕ) (units unit rest : List ℕ) : Type 0 where
  long : n ≡ length unit
  same : units ≡ unit ++ rest

here : (n : ℕ) (units unit rest : List ℕ) → n < 4294967296 → BeginsWithUnit (long_word n ++ units) zero unit rest → Here n units unit rest
here n units unit rest low it =
    let fits : length unit < 4294967296 = it.fits in
    let stands : long_word n ++ units ≡ long_word (length unit) ++ (unit ++ rest) = it.stands ∙ one_written unit rest in
    record { long = one_length n (length unit) low fits cc; same = cc }

-- bytes that begin with a length of 0 go on with the same unit behind it
pub past_empty : (units : List ℕ) (empty : ℕ) (unit rest : List ℕ) → BeginsWithUnit (long_word 0 ++ units) empty unit rest →
    (left : ℕ) × BeginsWithUnit units left unit rest
past_empty units zero unit rest it =
    let h = here 0 units unit rest (omega arith) it in
    let long = h.long in
    let some = it.some in
    absurd (omega (arith, long, some))
past_empty units (suc empty) unit rest it =
    let stands : long_word 0 ++ units ≡ long_word 0 ++ (byte_stream true (replicate empty [] ++ unit ∷ []) ++ rest) = it.stands in
    (empty, record { some = it.some; fits = it.fits; stands = cc })

-- no unit stands where fewer bytes are left than the length tells
pub too_long : (n : ℕ) (units : List ℕ) → n < 4294967296 → length units < n → (empty : ℕ) (unit rest : List ℕ) → BeginsWithUnit (long_word n ++ units) empty unit rest → ⊥
too_long n units low few zero unit rest it =
    let h = here n units unit rest low it in
    let long = h.long in
    let lengths = ap length h.same ∙ length-append unit rest in
    absurd (omega (arith, long, lengths, few))
too_long n units low few (suc empty) unit rest it =
    let stands : long_word n ++ units ≡ long_word 0 ++ (byte_stream true (replicate empty [] ++ unit ∷ []) ++ rest) = it.stands in
    let none = one_length n 0 low (omega arith) cc in
    absurd (omega (arith, none, few))

-- nor where fewer bytes are left than a length has
pub too_short : (bytes : List ℕ) → length bytes < 4 → (empty : ℕ) (unit rest : List ℕ) → BeginsWithUnit bytes empty unit rest → ⊥
too_short bytes few zero unit rest it =
    let lengths : length bytes ≡ 4 + length (unit ++ rest) = ap length (it.stands ∙ one_written unit rest) ∙ length-append (long_word (length unit)) (unit ++ rest) in
    absurd (omega (arith, lengths, few))
too_short bytes few (suc empty) unit rest it =
    let behind = byte_stream true (replicate empty [] ++ unit ∷ []) ++ rest in
    let lengths : length bytes ≡ 4 + length behind = ap length it.stands ∙ length-append (long_word 0) behind in
    absurd (omega (arith, lengths, few))

-- behind lengths of empty units the same unit stands
behind_empty : (count : ℕ) (left : List ℕ) (empty : ℕ) (unit rest : List ℕ) → BeginsWithUnit (byte_stream true (replicate count []) ++ left) empty unit rest →
    (fewer : ℕ) × BeginsWithUnit left fewer unit rest
behind_empty zero left empty unit rest it = (empty, it)
behind_empty (suc count) left empty unit rest it =
    let next = past_empty (byte_stream true (replicate count []) ++ left) empty unit rest it in
    behind_empty count left next.0 unit rest next.1

-- a unit that the text has from the place on stands in what is left
pub still_there : (text left : List ℕ) (from : ℕ) → Left text left from → (empty : ℕ) (unit rest : List ℕ) → BeginsWithUnit (drop from text) empty unit rest →
    (fewer : ℕ) × BeginsWithUnit left fewer unit rest
still_there text left from so_far empty unit rest it =
    behind_empty so_far.empty.0 left empty unit rest (rw (← so_far.empty.1) it)

-- a length of 0 behind lengths of 0 is one more of them
one_more : (count : ℕ) (units : List ℕ) → byte_stream true (replicate count []) ++ (long_word 0 ++ units) ≡ byte_stream true (replicate (suc count) []) ++ units
one_more zero units = refl
one_more (suc count) units = ap (λ (x : List ℕ). 0 ∷ 0 ∷ 0 ∷ 0 ∷ x) (one_more count units)

-- behind a length of 0 the text is left as before
pub left_behind : (text left units : List ℕ) (from : ℕ) → Left text left from → left ≡ long_word 0 ++ units → Left text units from
left_behind text left units from so_far same =
    let within = so_far.within in
    let begins = so_far.begins in
    let lengths : length left ≡ 4 + length units = ap length same ∙ length-append (long_word 0) units in
    record {
      within = omega (arith, within, lengths);
      begins = omega (arith, within, begins, lengths);
      end = ap (drop 4) (sym same ∙ so_far.end) ∙ drop-drop 4 (length text - length left) text
          ∙ ap (λ n. drop n text) (omega (arith, within, lengths));
      empty = (
        suc so_far.empty.0,
        so_far.empty.1 ∙ ap (λ (x : List ℕ). byte_stream true (replicate so_far.empty.0 []) ++ x) same ∙ one_more so_far.empty.0 units,
      );
    }

-- the text from the place of what is left on
from_there : (text left units : List ℕ) (from n k : ℕ) → Left text left from → left ≡ long_word n ++ units →
    drop (length text - length units + k) text ≡ drop k units
from_there text left units from n k so_far same =
    let within = so_far.within in
    let lengths : length left ≡ 4 + length units = ap length same ∙ length-append (long_word n) units in
    ap (λ m. drop m text) (omega (arith, within, lengths)) ∙ sym (drop-drop (4 + k) (length text - length left) text)
    ∙ ap (drop (4 + k)) (sym so_far.end ∙ same) ∙ drop-append-add (long_word n) units k

-- the next unit of a text, where what is left begins with its length
pub found : (text left units : List ℕ) (from n : ℕ) → Left text left from → left ≡ long_word n ++ units → n < 4294967296 → 0 < n → n ≤ length units →
    IsNextAvcUnit text from (length text - length units) (length text - length units + n)
found text left units from n so_far same low some fits =
    let within = so_far.within in
    let begins = so_far.begins in
    let begin = length text - length units in
    let lengths : length left ≡ 4 + length units = ap length same ∙ length-append (long_word n) units in
    let here : drop begin text ≡ units = ap (λ m. drop m text) (omega arith) ∙ from_there text left units from n 0 so_far same in
    let unit : take (begin + n - begin) (drop begin text) ≡ take n units = ap (λ m. take m (drop begin text)) (omega arith) ∙ ap (take n) here in
    let behind : drop (begin + n) text ≡ drop n units = from_there text left units from n n so_far same in
    let long : length (take n units) ≡ n = length-take-le n units fits in
    let count = so_far.empty.0 in
    let written : byte_stream true (replicate count [] ++ take n units ∷ []) ++ drop n units ≡ byte_stream true (replicate count []) ++ (long_word n ++ units) =
    joined count (take n units) (drop n units)
    ∙ ap (λ (x : List ℕ). byte_stream true (replicate count []) ++ x)
    (ap (λ m. long_word m ++ (take n units ++ drop n units)) long ∙ ap (λ (x : List ℕ). long_word n ++ x) (take-append-drop n units)) in
    record {
      begins = omega (arith, within, begins, lengths);
      ends = omega (arith, some);
      within = omega (arith, within, fits, lengths);
      unit = (
        count,
        rw (unit, behind) (record {
          some = rw long some;
          fits = rw long low;
          stands = so_far.empty.1 ∙ ap (λ (x : List ℕ). byte_stream true (replicate count []) ++ x) same ∙ sym written;
        }),
      );
    }

-- of units behind lengths the next one is found from the end of those before it
pub found_again : (before : List (List ℕ)) (empty : ℕ) (unit : List ℕ) (after : List (List ℕ)) → 0 < length unit → length unit < 4294967296 →
    IsNextAvcUnit (byte_stream true (before ++ (replicate empty [] ++ unit ∷ after))) (length (byte_stream true before))
    (length (byte_stream true before) + length (byte_stream true (replicate empty [])) + 4)
    (length (byte_stream true before) + length (byte_stream true (replicate empty [])) + 4 + length unit)
found_again before empty unit after some fits =
    let p = byte_stream true before in
    let q = byte_stream true (replicate empty []) in
    let r = byte_stream true after in
    let n = length unit in
    let begin = length p + length q + 4 in
    let text = byte_stream true (before ++ (replicate empty [] ++ unit ∷ after)) in
    let one : byte_stream true (unit ∷ after) ≡ long_word n ++ (unit ++ r) = append_assoc (long_word n) unit r in
    let behind : byte_stream true (replicate empty [] ++ unit ∷ after) ≡ q ++ (long_word n ++ (unit ++ r)) =
    flat_map-append (λ it. unit_prefix true it ++ it) (replicate empty []) (unit ∷ after) ∙ ap (λ (x : List ℕ). q ++ x) one in
    let whole : text ≡ p ++ (q ++ (long_word n ++ (unit ++ r))) =
    flat_map-append (λ it. unit_prefix true it ++ it) before (replicate empty [] ++ unit ∷ after) ∙ ap (λ (x : List ℕ). p ++ x) behind in
    let from_p : drop (length p) text ≡ q ++ (long_word n ++ (unit ++ r)) = ap (drop (length p)) whole ∙ drop-append_seam p (q ++ (long_word n ++ (unit ++ r))) in
    let at : (k : ℕ) → drop (begin + k) text ≡ drop k (unit ++ r) = λ k.
    ap (λ m. drop m text) (omega arith) ∙ ap (drop (length p + (length q + (4 + k)))) whole
    ∙ drop-append-add p (q ++ (long_word n ++ (unit ++ r))) (length q + (4 + k)) ∙ drop-append-add q (long_word n ++ (unit ++ r)) (4 + k)
    ∙ drop-append-add (long_word n) (unit ++ r) k in
    let here : drop begin text ≡ unit ++ r = ap (λ m. drop m text) (omega arith) ∙ at 0 in
    let taken : take (begin + n - begin) (drop begin text) ≡ unit = ap (λ m. take m (drop begin text)) (omega arith) ∙ ap (take n) here ∙ take-append_seam unit r in
    let left : drop (begin + n) text ≡ r = at n ∙ drop-append_seam unit r in
    let lengths : length text ≡ length p + (length q + (4 + (length unit + length r))) =
    ap length whole ∙ length-append p (q ++ (long_word n ++ (unit ++ r))) ∙ ap (λ m. length p + m) (length-append q (long_word n ++ (unit ++ r))
    ∙ ap (λ m. length q + m) (length-append (long_word n) (unit ++ r) ∙ ap (λ m. 4 + m) (length-append unit r))) in
    record {
      begins = omega arith;
      ends = omega (arith, some);
      within = omega (arith, lengths);
      unit = (empty, rw (taken, left) (record { some = some; fits = fits; stands = from_p ∙ sym (joined empty unit r) }));
    }
