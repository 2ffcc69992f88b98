use Rattle.std.proofs.Common.{rules, ◌≡◌, ◌≤◌, ◌+◌, length, min, arith, ap, ◌∙◌, subst, [], ℕ, List}
use Rattle.h26x_packetizer.specs.Group.{lent_units, behind_leads}
use Rattle.h26x_packetizer.proofs.PieceLemmas.{leads_are, none_left}
use Rattle.h26x_packetizer.proofs.pieces.pieces_len.Goals as goal

pub returns : goal.returns
returns c =
    let units = c.args.units.now in
    let past : length units ≤ c.loop-unit.unit-index = search rules in
    let none = none_left c.loop-unit.lead.now c.args.gap.now units c.loop-unit.unit-index past in
    let inv = c.loop-unit.invariant.sum in
    let small = c.loop-unit.invariant.small in
    let same = leads_are c.args.gap.now (lent_units units) in
    let all : min (c.loop-unit.len + 0) 18446744073709551615 ≡ min (length (behind_leads [] c.args.gap.now (lent_units units))) 18446744073709551615 =
    subst (λ (l : List ℕ). min (c.loop-unit.len + length l) 18446744073709551615 ≡ min (length (behind_leads [] c.args.gap.now (lent_units units))) 18446744073709551615) none inv in
    let is : c.loop-unit.len ≡ min (length (behind_leads [] c.args.gap.now (lent_units units))) 18446744073709551615 = omega (arith, all, small) in
    is ∙ ap (λ (l : List ℕ). min (length l) 18446744073709551615) same
