-- The units of a payload are not empty and hold no start code.
use Rattle.std.proofs.Common.{ℕ, List, [], ◌∷◌, refl, sym, subst}
use Rattle.std.specs.Prelude.{filter}
use Rattle.std.specs.List.{AllByRecursion}
use Rattle.h26x_core.specs.ByteStream.{is_not_empty}
use Rattle.h26x_cut.specs.declared.ZeroRule.{ZeroRule}
use Rattle.h26x_cut.specs.Cutting.{HoldsStartCode, IsCutting, AreUnits, IsUnit, units_of_segments}

-- no segment holds a start code
abbrev AreWhole : List (List ℕ) → Type 0
AreWhole segments = AllByRecursion (λ segment. HoldsStartCode segment → ⊥) segments

-- no segment of a cutting holds a start code
segments_whole : (rule : ZeroRule) (bytes : List ℕ) (segments : List (List ℕ)) → IsCutting rule bytes segments → AreWhole segments
segments_whole rule bytes [] cut = absurd cut
segments_whole rule bytes (segment ∷ []) (same, free) = (free, tt)
segments_whole rule bytes (segment ∷ second ∷ segments) (code, rest, same, free, is_code, later) = (free, segments_whole rule rest (second ∷ segments) later)

-- of such segments those that are not empty are units
kept_whole : (segments : List (List ℕ)) → AreWhole segments → AllByRecursion IsUnit (filter is_not_empty segments)
kept_whole [] free = tt
kept_whole ([] ∷ segments) (first, later) = kept_whole segments later
kept_whole ((b ∷ segment) ∷ segments) (first, later) = (record { not_empty = refl; no_code = first }, kept_whole segments later)

-- of whole segments the units are not empty and whole
units_of_whole : (segments : List (List ℕ)) → AreWhole segments → AllByRecursion IsUnit (units_of_segments segments)
units_of_whole [] free = tt
units_of_whole (segment ∷ []) free = kept_whole (segment ∷ []) free
units_of_whole (before ∷ segment ∷ segments) (first, later) = kept_whole (segment ∷ segments) later

-- the units of a payload are not empty and whole
pub units_whole : (rule : ZeroRule) (payload : List ℕ) (units : List (List ℕ)) → AreUnits rule payload units → AllByRecursion IsUnit units
units_whole rule payload units (segments, cut, same) = subst (AllByRecursion IsUnit) (sym same) (units_of_whole segments (segments_whole rule payload segments cut))
