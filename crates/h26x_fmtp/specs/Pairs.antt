-- The value of `a=fmtp` as a list of parameters (RFC 6184, section 8.2.1; RFC 7798, section 7.2.1; RFC
-- 9328, section 7.3.1): parts with `;` between them, each a name, `=` and a value.
use Rattle.std.specs.Prelude.{ℕ, ◌-◌, ◌==◌, Bool, true, false, not, ◌&&◌, if◌then◌else◌, List, [], ◌∷◌, length, take, drop, Option, Some, None}
use Rattle.std.specs.List.{prefix_len, suffix_len, filter_map, onto_first, before_first, after_first}
use Rattle.std.specs.Char.{is_ascii_whitespace}

-- a parameter as it stands in a text
pub record Pair : Type 0 where
  pub name : List ℕ
  pub value : List ℕ

-- a text without the white space at its ends
abbrev pub trim_ascii : List ℕ → List ℕ
trim_ascii text =
    let rest = drop (prefix_len is_ascii_whitespace text) text in
    take (length rest - suffix_len is_ascii_whitespace rest) rest

-- whether what follows a byte stands inside braces, as the byte itself does or not
abbrev pub is_inside : Bool → ℕ → Bool
is_inside inside byte = if byte == 123 then true else if byte == 125 then false else inside

-- whether a byte ends a part: `;`, but inside braces, as in `dec-parallel-cap={w:8;level-id=93}` of
-- RFC 7798, section 7.1
abbrev pub ends_part : Bool → ℕ → Bool
ends_part inside byte = byte == 59 && not inside

-- a text cut at each `;` that ends a part
abbrev pub parts_from : Bool → List ℕ → List (List ℕ)
parts_from inside [] = [] ∷ []
parts_from inside (byte ∷ rest) =
    if ends_part inside byte then [] ∷ parts_from false rest
    else onto_first byte (parts_from (is_inside inside byte) rest)

abbrev pub parts : List ℕ → List (List ℕ)
parts text = parts_from false text

abbrev pub is_equals : ℕ → Bool
is_equals byte = byte == 61

-- the name before the first `=` of a part, and the value behind it
abbrev pub pair_of : List ℕ → Pair
pair_of part = record {
  name = trim_ascii (before_first is_equals part);
  value = trim_ascii (after_first is_equals part);
}

-- the parameter of a part, if the part isn't blank
abbrev pub pair_unless_empty : List ℕ → Option Pair
pair_unless_empty [] = None
pair_unless_empty (byte ∷ rest) = Some (pair_of (byte ∷ rest))

abbrev pub pair_in : List ℕ → Option Pair
pair_in part = pair_unless_empty (trim_ascii part)

-- the parameters of a text
abbrev pub pairs : List ℕ → List Pair
pairs text = filter_map pair_in (parts text)

-- whether every brace of a text is closed
abbrev pub closes_from : Bool → List ℕ → Bool
closes_from inside [] = not inside
closes_from inside (byte ∷ rest) = closes_from (is_inside inside byte) rest

abbrev pub closes : List ℕ → Bool
closes text = closes_from false text
