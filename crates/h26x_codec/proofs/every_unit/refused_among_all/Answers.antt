use Rattle.std.proofs.Common.{◌≡◌, ◌∙◌, ap, sym, subst, inl, ℕ, List}
use Rattle.h26x_cut.specs.Cutting.{units_of}
use Rattle.h26x_packetizer.specs.Group.{lent_units}
use Rattle.h26x_packetizer.specs.declared.every_unit.EveryUnitError.{EveryUnitError}
use Rattle.h26x_packetizer.specs.declared.every_unit.EveryUnitError.TheVariants as u
use Rattle.h26x_packetizer.specs.declared.refusal.RefusedUnit.{RefusedUnit}
use Rattle.h26x_codec.specs.Codec.{zero_rule}
use Rattle.h26x_codec.specs.SentUnits.{is_sent, place_among, refused_among_all}
use Rattle.h26x_codec.proofs.SentLemmas.{all_sent, same_unit}
use Rattle.h26x_codec.proofs.every_unit.refused_among_all.Goals as goal

pub returns-in-Ok-clause-unit : goal.returns-in-Ok-clause-unit
returns-in-Ok-clause-unit c = λ unit is.
    let codec = c.args.codec in
    let sends = is_sent c.args.delimiters codec in
    let text = c.args.access_unit.now in
    let it = c.in-Unit.unit in
    let units = ap lent_units c.deref.ensures.value ∙ c.in-Ok.ensures ∙ all_sent codec (units_of (zero_rule codec) text) in
    let place = c.place_among.ensures ∙ ap (λ (l : List (List ℕ)). place_among sends l it.place) units in
    let told : EveryUnitError = u.Unit record { place = c.place_among.result; len = it.len; why = it.why } in
    let of_it : told ≡ u.Unit (refused_among_all c.args.delimiters codec text it) =
    ap (λ (n : ℕ). u.Unit record { place = n; len = it.len; why = it.why }) place in
    inl (subst (λ (r : RefusedUnit). told ≡ u.Unit (refused_among_all c.args.delimiters codec text r))
    (same_unit it unit (sym c.in-Unit.is ∙ is)) of_it)
