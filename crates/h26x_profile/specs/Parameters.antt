-- Parameters of a format in SDP (RFC 7798, section 7.1; RFC 9328, section 7.2).
use Rattle.std.specs.Prelude.{ℕ, ◌^◌, Bool, ◌&&◌, nat_lt, cond, List, length, Option, Some, None, codes, String, string_bytes}
use Rattle.std.specs.Option.{option_and_then}
use Rattle.std.specs.List.{list_all}
use Rattle.std.specs.Char.{digit_value}
use Rattle.std.specs.Str.Parse.{digits_value, without_leading_plus}
use Rattle.std.specs.HashMap.{HashMap, get_by_text}
use Rattle.std.specs.declared.alloc.Global.{Global}
use Rattle.std.specs.declared.hash.FoldHasher.{FoldHasher}
use Rattle.std.specs.declared.hash.BuildHasherDefault.{BuildHasherDefault}

-- the parameters by their names
abbrev pub Parameters : Type 0
Parameters = HashMap (String Global) (String Global) (BuildHasherDefault FoldHasher)

-- whether a text is decimal digits, one or more, of a number below 256
abbrev pub writes_byte : List ℕ → Bool
writes_byte digits = nat_lt 0 (length digits) && list_all (λ c. nat_lt (digit_value c) 10) digits
    && nat_lt (digits_value 10 digits) (2 ^ 8)

-- the number that a text writes where std reads it as a `u8`: digits of a byte, with a plus before
-- them or none
abbrev pub byte_of : List ℕ → Option ℕ
byte_of text = cond (writes_byte (without_leading_plus text))
    (Some (digits_value 10 (without_leading_plus text))) None

-- the byte that a parameter of this name has
abbrev pub parameter : Parameters → List ℕ → Option ℕ
parameter params name = option_and_then (λ text. byte_of (string_bytes text))
    (get_by_text params name)

-- what a reader of three bytes makes of `profile-id`, `tier-flag` and `level-id`, where they are
-- there
abbrev pub read_with : {A : Type 0} → (ℕ → ℕ → ℕ → Option A) → Parameters → Option A
read_with read params =
    option_and_then (λ profile. option_and_then (λ tier. option_and_then
    (λ level. read profile tier level) (parameter params (codes "level-id")))
    (parameter params (codes "tier-flag"))) (parameter params (codes "profile-id"))
