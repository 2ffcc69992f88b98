-- Plain units: what a search tells of them, and what stands in their text.
use Rattle.std.proofs.Common.{◌≡◌, ℕ, zero, suc, ◌+◌, ◌/◌, ◌%◌, ◌<◌, ◌≤◌, false, true, List, [], ◌∷◌, ◌++◌, length, take, drop, get_or, Option, None, Some, refl, sym, ap, ◌∙◌, arith, length-append, append_assoc}
use Rattle.std.specs.Prelude.{IsTrue, ◌↔◌}
use Rattle.std.specs.Option.{is_some}
use Rattle.std.specs.List.{AllByRecursion}
use Rattle.std.proofs.lemmas.Bool.{leb-false}
use Rattle.std.proofs.lemmas.List.{drop_more, get_or-append-add, take-append-drop}
use Rattle.memchr.specs.Find.{FindsNeedle, OccursAt}
use Rattle.h26x_core.specs.ByteStream.{byte_stream, is_not_empty}
use Rattle.h26x_core.specs.Word.{long_word}
use Rattle.h26x_cut.specs.Cutting.{AreSeparable, EndsInZero, IsUnit}
use Rattle.h26x_cut.specs.declared.ZeroRule.{ZeroRule}
use Rattle.h26x_cut.specs.declared.ZeroRule.TheVariants.{All, AtMostThree}
use Rattle.h26x_model.specs.Receive.Outcome.{is_too_long}
use Rattle.h26x_codec.specs.declared.codec.Codec.{Codec}
use Rattle.h26x_codec.specs.declared.codec.Codec.TheVariants as c
use Rattle.h26x_codec.specs.Plain.{HoldsBehindZeros, IsPlainText, IsPlainUnit, has_plain_header}

-- the first three bytes of what stands somewhere
front : (byte : ℕ) (after : List ℕ) (j : ℕ) → j < 3 → get_or (0 ∷ 0 ∷ byte ∷ after) j 0 ≡ get_or (0 ∷ 0 ∷ byte ∷ []) j 0
front byte after zero h = refl
front byte after (suc zero) h = refl
front byte after (suc (suc zero)) h = refl
front byte after (suc (suc (suc j))) h = absurd (omega arith)

-- what stands in bytes occurs behind what stands before it
stands_occurs : (bytes before after : List ℕ) (byte : ℕ) → bytes ≡ before ++ 0 ∷ 0 ∷ byte ∷ after → OccursAt bytes (0 ∷ 0 ∷ byte ∷ []) (length before)
stands_occurs bytes before after byte same =
    let long = ap length same ∙ length-append before (0 ∷ 0 ∷ byte ∷ after) in
    record {
      fits = omega (arith, long);
      reads = λ j within.
          ap (λ (x : List ℕ). get_or x (length before + j) 0) same ∙ get_or-append-add before (0 ∷ 0 ∷ byte ∷ after) j 0 ∙ front byte after j within;
    }

-- the byte at a place, and those behind it
byte_at : (bytes : List ℕ) (place next value : ℕ) → place < length bytes → next ≡ place + 1 → get_or bytes place 0 ≡ value → drop place bytes ≡ value ∷ drop next bytes
byte_at bytes place next value within follows is =
    drop_more bytes place 0 within ∙ ap (λ b. b ∷ drop (place + 1) bytes) is ∙ ap (λ k. value ∷ drop k bytes) (sym follows)

-- what occurs at a place stands there
occurs_stands : (bytes : List ℕ) (byte place : ℕ) → OccursAt bytes (0 ∷ 0 ∷ byte ∷ []) place → HoldsBehindZeros byte bytes
occurs_stands bytes byte place at =
    let fits = at.fits in
    let itself : place ≡ place + 0 = omega arith in
    let none : get_or bytes place 0 ≡ 0 = ap (λ k. get_or bytes k 0) itself ∙ at.reads 0 (omega arith) in (
      take place bytes,
      drop (place + 3) bytes,
      sym (take-append-drop place bytes) ∙ ap (λ (x : List ℕ). take place bytes ++ x) (
          byte_at bytes place (place + 1) 0 (omega (arith, fits)) (omega arith) none
          ∙ ap (λ (x : List ℕ). 0 ∷ x) (byte_at bytes (place + 1) (place + 2) 0 (omega (arith, fits)) (omega arith) (at.reads 1 (omega arith))
          ∙ ap (λ (x : List ℕ). 0 ∷ x) (byte_at bytes (place + 2) (place + 3) byte (omega (arith, fits)) (omega arith) (at.reads 2 (omega arith))))),
    )

-- where a search finds nothing it stands nowhere
not_found : (bytes : List ℕ) (byte : ℕ) → FindsNeedle bytes (0 ∷ 0 ∷ byte ∷ []) 0 None → ¬ HoldsBehindZeros byte bytes
not_found bytes byte finds (before, after, same) =
    let long = ap length same ∙ length-append before (0 ∷ 0 ∷ byte ∷ after) in
    finds (length before) (omega arith) (omega (arith, long)) (stands_occurs bytes before after byte same)

-- where it finds a place it stands there
found : (bytes : List ℕ) (byte place : ℕ) → FindsNeedle bytes (0 ∷ 0 ∷ byte ∷ []) 0 (Some place) → HoldsBehindZeros byte bytes
found bytes byte place (first, occurs) = occurs_stands bytes byte place occurs

-- so a search tells whether it stands somewhere
pub search_tells : (bytes : List ℕ) (byte : ℕ) (r : Option ℕ) → FindsNeedle bytes (0 ∷ 0 ∷ byte ∷ []) 0 r → IsTrue (is_some r) ↔ HoldsBehindZeros byte bytes
search_tells bytes byte None finds = (λ e. absurd cc, λ holds. absurd (not_found bytes byte finds holds))
search_tells bytes byte (Some place) finds = (λ e. found bytes byte place finds, λ holds. refl)

-- what stands behind the first byte of plain text is plain too
plain_later : (b : ℕ) (bytes : List ℕ) → IsPlainText (b ∷ bytes) → IsPlainText bytes
plain_later b bytes whole = record {
  no_code = λ (before, after, same). whole.no_code (b ∷ before, after, ap (λ (x : List ℕ). b ∷ x) same);
  no_zeros = λ (before, after, same). whole.no_zeros (b ∷ before, after, ap (λ (x : List ℕ). b ∷ x) same);
  no_zero_last = λ (before, same). whole.no_zero_last (b ∷ before, ap (λ (x : List ℕ). b ∷ x) same);
}

-- no unit ends in plain text, whatever stands behind it
pub ends_behind : (unit behind before after : List ℕ) (byte : ℕ) → IsPlainText unit → byte ≤ 1 → unit ++ behind ≡ before ++ 0 ∷ 0 ∷ byte ∷ after →
    length unit ≤ length before
ends_behind [] behind before after byte plain low same = omega arith
ends_behind (b ∷ []) behind [] after byte plain low same =
    let zero_last : b ≡ 0 = cc in absurd (plain.no_zero_last ([], ap (λ (n : ℕ). n ∷ []) zero_last))
ends_behind (b ∷ d ∷ []) behind [] after byte plain low same =
    let zero_last : d ≡ 0 = cc in absurd (plain.no_zero_last (b ∷ [], ap (λ (n : ℕ). b ∷ n ∷ []) zero_last))
ends_behind (b ∷ d ∷ zero ∷ unit) behind [] after byte plain low same =
    let first : b ≡ 0 = cc in let second : d ≡ 0 = cc in
    absurd (plain.no_zeros ([], unit, ap (λ (n : ℕ). n ∷ d ∷ 0 ∷ unit) first ∙ ap (λ (n : ℕ). 0 ∷ n ∷ 0 ∷ unit) second))
ends_behind (b ∷ d ∷ suc zero ∷ unit) behind [] after byte plain low same =
    let first : b ≡ 0 = cc in let second : d ≡ 0 = cc in
    absurd (plain.no_code ([], unit, ap (λ (n : ℕ). n ∷ d ∷ 1 ∷ unit) first ∙ ap (λ (n : ℕ). 0 ∷ n ∷ 1 ∷ unit) second))
ends_behind (b ∷ d ∷ suc (suc e) ∷ unit) behind [] after byte plain low same =
    let third : suc (suc e) ≡ byte = cc in absurd (omega (arith, third, low))
ends_behind (b ∷ unit) behind (x ∷ before) after byte plain low same =
    let later : unit ++ behind ≡ before ++ 0 ∷ 0 ∷ byte ∷ after = cc in
    let less = ends_behind unit behind before after byte (plain_later b unit plain) low later in
    omega (arith, less)

-- a unit with a header is not empty
not_empty : (codec : Codec) (unit : List ℕ) → IsTrue (has_plain_header codec unit) → IsTrue (is_not_empty unit)
not_empty c.H264 [] has = absurd cc
not_empty c.H265 [] has = absurd cc
not_empty c.H266 [] has = absurd cc
not_empty codec (b ∷ unit) has = refl

-- plain units are units
pub are_units : (codec : Codec) (units : List (List ℕ)) → AllByRecursion (IsPlainUnit codec) units → AllByRecursion IsUnit units
are_units codec [] plain = tt
are_units codec (unit ∷ units) (first, later) =
    (record { not_empty = not_empty codec unit first.header; no_code = first.text.no_code }, are_units codec units later)

-- and told apart by each rule
pub are_separable : (rule : ZeroRule) (codec : Codec) (units : List (List ℕ)) → AllByRecursion (IsPlainUnit codec) units → AreSeparable rule units
are_separable AtMostThree codec units plain = tt
are_separable All codec [] plain = tt
are_separable All codec (unit ∷ []) plain = tt
are_separable All codec (unit ∷ second ∷ units) (first, later) = (first.text.no_zero_last, are_separable All codec (second ∷ units) later)

-- a length that four bytes hold is one alone of its bytes
one_length : (n m : ℕ) → n < 4294967296 → m < 4294967296 → long_word n ≡ long_word m → n ≡ m
one_length n m low low' same =
    let a : n / 16777216 % 256 ≡ m / 16777216 % 256 = cc in
    let b : n / 65536 % 256 ≡ m / 65536 % 256 = cc in
    let d : n / 256 % 256 ≡ m / 256 % 256 = cc in
    let e : n % 256 ≡ m % 256 = cc in
    omega (arith, a, b, d, e)

-- lists with the same front and lists of the same length before them
apart : (u v x y : List ℕ) → length u ≡ length v → u ++ x ≡ v ++ y → (u ≡ v) × (x ≡ y)
apart [] [] x y long same = (refl, same)
apart [] (b ∷ v) x y long same = absurd (omega (arith, long))
apart (a ∷ u) [] x y long same = absurd (omega (arith, long))
apart (a ∷ u) (b ∷ v) x y long same =
    let first : a ≡ b = cc in
    let later : u ++ x ≡ v ++ y = cc in
    let rest = apart u v x y (omega (arith, long)) later in
    (ap (λ (n : ℕ). n ∷ u) first ∙ ap (λ (l : List ℕ). b ∷ l) rest.0, rest.1)

-- units behind lengths that four bytes hold are those of their text alone
pub one_list : (a b : List (List ℕ)) → AllByRecursion (λ unit. is_too_long unit ≡ false) a → AllByRecursion (λ unit. is_too_long unit ≡ false) b →
    byte_stream true a ≡ byte_stream true b → a ≡ b
one_list [] [] fits fits' same = refl
one_list [] (v ∷ b) fits fits' same = absurd cc
one_list (u ∷ a) [] fits fits' same = absurd cc
one_list (u ∷ a) (v ∷ b) (fits, later) (fits', later') same =
    let grouped : long_word (length u) ++ (u ++ byte_stream true a) ≡ long_word (length v) ++ (v ++ byte_stream true b) =
    sym (append_assoc (long_word (length u)) u (byte_stream true a)) ∙ same ∙ append_assoc (long_word (length v)) v (byte_stream true b) in
    let words = apart (long_word (length u)) (long_word (length v)) (u ++ byte_stream true a) (v ++ byte_stream true b) refl grouped in
    let long = one_length (length u) (length v) (leb-false 4294967296 (length u) fits) (leb-false 4294967296 (length v) fits') words.0 in
    let parts = apart u v (byte_stream true a) (byte_stream true b) long words.1 in
    ap (λ (x : List ℕ). x ∷ a) parts.0 ∙ ap (λ (x : List (List ℕ)). v ∷ x) (one_list a b later later' parts.1)

-- nothing stands in no bytes
in_nothing : (before : List ℕ) (b : ℕ) (found : List ℕ) → [] ≡ before ++ b ∷ found → ⊥
in_nothing [] b found same = absurd cc
in_nothing (x ∷ before) b found same = absurd cc

-- no bytes are plain text
pub nothing_plain : IsPlainText []
nothing_plain = record {
  no_code = λ (before, after, same). in_nothing before 0 (0 ∷ 1 ∷ after) same;
  no_zeros = λ (before, after, same). in_nothing before 0 (0 ∷ 0 ∷ after) same;
  no_zero_last = λ (before, same). in_nothing before 0 [] same;
}

-- what stands behind no first byte of bytes, and doesn't begin there, stands nowhere in them
no_more : (b : ℕ) (bytes : List ℕ) (byte : ℕ) (before after : List ℕ) → (b ∷ bytes ≡ 0 ∷ 0 ∷ byte ∷ after → ⊥) → (¬ HoldsBehindZeros byte bytes) →
    b ∷ bytes ≡ before ++ 0 ∷ 0 ∷ byte ∷ after → ⊥
no_more b bytes byte [] after here later same = here same
no_more b bytes byte (x ∷ before) after here later same = later (before, after, cc)

-- the same of a zero that is last
no_zero_more : (b : ℕ) (bytes before : List ℕ) → (b ∷ bytes ≡ 0 ∷ [] → ⊥) → (¬ EndsInZero bytes) → b ∷ bytes ≡ before ++ 0 ∷ [] → ⊥
no_zero_more b bytes [] here later same = here same
no_zero_more b bytes (x ∷ before) here later same = later (before, cc)

-- plain text behind one more byte that is no zero
pub behind_byte : (b : ℕ) (bytes : List ℕ) → IsPlainText bytes → IsPlainText (suc b ∷ bytes)
behind_byte b bytes plain = record {
  no_code = λ (before, after, same). no_more (suc b) bytes 1 before after (λ e. absurd cc) plain.no_code same;
  no_zeros = λ (before, after, same). no_more (suc b) bytes 0 before after (λ e. absurd cc) plain.no_zeros same;
  no_zero_last = λ (before, same). no_zero_more (suc b) bytes before (λ e. absurd cc) plain.no_zero_last same;
}

-- behind a zero, where another byte follows
pub behind_zero : (d : ℕ) (bytes : List ℕ) → IsPlainText (suc d ∷ bytes) → IsPlainText (0 ∷ suc d ∷ bytes)
behind_zero d bytes plain = record {
  no_code = λ (before, after, same). no_more 0 (suc d ∷ bytes) 1 before after (λ e. absurd cc) plain.no_code same;
  no_zeros = λ (before, after, same). no_more 0 (suc d ∷ bytes) 0 before after (λ e. absurd cc) plain.no_zeros same;
  no_zero_last = λ (before, same). no_zero_more 0 (suc d ∷ bytes) before (λ e. absurd cc) plain.no_zero_last same;
}

-- and behind two, where that byte is over 01
pub behind_zeros : (d : ℕ) (bytes : List ℕ) → IsPlainText (suc (suc d) ∷ bytes) → IsPlainText (0 ∷ 0 ∷ suc (suc d) ∷ bytes)
behind_zeros d bytes plain =
    let one = behind_zero (suc d) bytes plain in record {
      no_code = λ (before, after, same). no_more 0 (0 ∷ suc (suc d) ∷ bytes) 1 before after (λ e. absurd cc) one.no_code same;
      no_zeros = λ (before, after, same). no_more 0 (0 ∷ suc (suc d) ∷ bytes) 0 before after (λ e. absurd cc) one.no_zeros same;
      no_zero_last = λ (before, same). no_zero_more 0 (0 ∷ suc (suc d) ∷ bytes) before (λ e. absurd cc) one.no_zero_last same;
    }
