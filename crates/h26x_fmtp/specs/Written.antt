-- Parameters written as the value of `a=fmtp`.
use Rattle.std.specs.Prelude.{◌≡◌, ℕ, ◌-◌, Bool, true, false, not, ◌&&◌, List, [], ◌∷◌, ◌++◌, length, map, slice_index}
use Rattle.std.specs.List.{join_with_byte, list_all}
use Rattle.std.specs.Char.{is_ascii_whitespace}
use Rattle.h26x_fmtp.specs.Pairs.{Pair, is_inside, ends_part, is_equals}

-- a parameter as it is written
abbrev pub text_of : Pair → List ℕ
text_of pair = pair.name ++ 61 ∷ pair.value

-- parameters as they are written, in their order
abbrev pub written : List Pair → List ℕ
written pairs = join_with_byte 59 (map text_of pairs)

-- a text, with a `;` behind it where it isn't empty
abbrev pub separated : List ℕ → List ℕ
separated [] = []
separated (byte ∷ rest) = (byte ∷ rest) ++ 59 ∷ []

-- a text with one more parameter behind it
abbrev pub with_pair : List ℕ → Pair → List ℕ
with_pair text pair = separated text ++ text_of pair

-- whether no `;` ends a part of a text, and every brace is closed
abbrev pub is_one_part : Bool → List ℕ → Bool
is_one_part inside [] = not inside
is_one_part inside (byte ∷ rest) = not (ends_part inside byte) && is_one_part (is_inside inside byte)
    rest

-- no white space stands at either end
pub record IsTrimmed (text : List ℕ) : Type 0 where
  pub start : is_ascii_whitespace (slice_index text 0) ≡ false
  pub end : is_ascii_whitespace (slice_index text (length text - 1)) ≡ false

-- a parameter that its text gives back: no white space at an end of its name or of its value, no `=`
-- in its name, no `;` outside braces and no brace left open
pub record IsWritable (pair : Pair) : Type 0 where
  pub name : IsTrimmed pair.name
  pub value : IsTrimmed pair.value
  pub no_equals : list_all (λ byte. not (is_equals byte)) pair.name ≡ true
  pub one_part : is_one_part false (text_of pair) ≡ true
