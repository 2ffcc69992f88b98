-- Where an access unit begins and ends among packets with headers of two bytes (RFC 7798, 4.4.3; RFC
-- 9328, 4.3.3; str0m's rule).
use Rattle.std.specs.Prelude.{ℕ, Bool, false, if◌then◌else◌, List, [], ◌∷◌, ◌||◌, not}
use Rattle.h26x_core.specs.Word.{is_set}

-- a bit of the byte behind a header; clear where there is none
abbrev pub is_set_first : List ℕ → ℕ → Bool
is_set_first [] bit = false
is_set_first (fu ∷ body) bit = is_set fu bit

-- whether a packet, a fragment or not, may be an access unit's first: one with F set may, of
-- fragments those with S, and every other
abbrev pub may_begin : Bool → List ℕ → Bool
may_begin fragment (high ∷ low ∷ rest) = is_set high 7 || (not fragment || is_set_first rest 7)
may_begin fragment packet = false

-- whether it is an access unit's last: a fragment with E, and of the others one whose marker is set
abbrev pub is_last : Bool → Bool → List ℕ → Bool
is_last fragment marker (high ∷ low ∷ rest) = if fragment then is_set_first rest 6 else marker
is_last fragment marker packet = false
