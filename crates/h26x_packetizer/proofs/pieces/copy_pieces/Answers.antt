use Rattle.std.proofs.Common.{rules, ◌≡◌, ◌≤◌, ◌++◌, length, arith, ap, ◌∙◌, sym, subst, take, [], ℕ, List, refl}
use Rattle.std.proofs.lemmas.List.{take_all, length-take-le, append-nil}
use Rattle.h26x_packetizer.specs.Group.{lent_units, behind_leads}
use Rattle.h26x_packetizer.proofs.PieceLemmas.{leads_are, none_left}
use Rattle.h26x_packetizer.proofs.pieces.copy_pieces.Goals as goal

pub loop-unit-init : goal.loop-unit-init
loop-unit-init c = record {
  len = c.requires ∙ ap length (sym (leads_are c.args.gap.now (lent_units c.args.units.now)));
  place = omega arith;
  all = refl;
}

pub returns : goal.returns
returns c =
    let units = c.args.units.now in
    let past : length units ≤ c.loop-unit.unit-index = search rules in
    let none = none_left c.loop-unit.lead.now c.args.gap.now units c.loop-unit.unit-index past in
    let inv = c.loop-unit.invariant in
    let front = take c.loop-unit.place c.loop-unit.to in
    let all : front ++ [] ≡ behind_leads [] c.args.gap.now (lent_units units) = subst (λ (l : List ℕ). front ++ l ≡ behind_leads [] c.args.gap.now (lent_units units)) none inv.all in
    let is : front ≡ behind_leads [] c.args.gap.now (lent_units units) = sym (append-nil front) ∙ all in
    let long = ap length is in
    let cut = length-take-le c.loop-unit.place c.loop-unit.to inv.place in
    let len = inv.len in
    let whole = take_all c.loop-unit.place c.loop-unit.to (omega (arith, long, cut, len)) in
    sym whole ∙ is ∙ leads_are c.args.gap.now (lent_units units)
