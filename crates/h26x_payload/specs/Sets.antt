-- Parameter sets that go before a unit, and kinds of units, as the code has them (RFC 6184, 5.7.1; RFC
-- 7798, 4.4.2; RFC 9328, 4.3.2).
use Rattle.std.specs.Prelude.{ℕ, Bool, if◌then◌else◌, List, [], ◌∷◌, ◌++◌, Option, Some, None}
use Rattle.std.specs.List.{flat_map}
use Rattle.std.specs.Option.{option_map}
use Rattle.std.specs.Borrow.{Bor}
use Rattle.h26x_core.specs.Kind.{Kind, Skipped, Vps, Sps, Pps, Other}
use Rattle.h26x_core.specs.Pieces.{piece}
use Rattle.h26x_payload.specs.declared.sets.Sets.{Sets}
use Rattle.h26x_payload.specs.declared.format.UnitKind.{UnitKind}
use Rattle.h26x_payload.specs.declared.format.UnitKind.TheVariants as k

-- a set that may be there, as a list
abbrev pub set_list : Option (List ℕ) → List (List ℕ)
set_list None = []
set_list (Some set) = set ∷ []

-- the same of a set that stands elsewhere
abbrev pub lent_set : Option (Bor (List ℕ)) → List (List ℕ)
lent_set set = set_list (option_map (λ s. s.now) set)

-- the kind of a unit, as the code has it
abbrev pub unit_kind : UnitKind → Kind
unit_kind k.Skipped = Skipped
unit_kind k.Vps = Vps
unit_kind k.Sps = Sps
unit_kind k.Pps = Pps
unit_kind k.Other = Other

-- sets in the order that they are sent in
abbrev pub sets_list : Sets → List (List ℕ)
sets_list sets = lent_set sets.vps ++ sets.sps.now ∷ sets.pps.now ∷ []

-- what stands before the length of each set but the first: a DOND of 0, or nothing
abbrev pub sets_gap : Bool → List ℕ
sets_gap has_dond = if has_dond then 0 ∷ [] else []

-- sets behind their lengths, from the second on behind these bytes too
abbrev pub sets_behind_lengths : List ℕ → List (List ℕ) → List ℕ
sets_behind_lengths gap [] = []
sets_behind_lengths gap (set ∷ sets) = piece set ++ flat_map (λ other. gap ++ piece other) sets
