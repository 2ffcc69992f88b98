use Rattle.std.proofs.Common.{rules, ◌≡◌, ◌≤◌, ◌+◌, ◌++◌, length, ap, ◌∙◌, sym, subst, [], ℕ, List, refl, vec_len, vec_capacity}
use Rattle.std.proofs.lemmas.List.{append-nil}
use Rattle.h26x_packetizer.specs.Group.{lent_units, behind_leads}
use Rattle.h26x_packetizer.proofs.PieceLemmas.{leads_are, none_left}
use Rattle.h26x_packetizer.proofs.pieces.put_pieces.Goals as goal

pub loop-unit-init : goal.loop-unit-init
loop-unit-init c = record {
  room = subst (λ (l : List ℕ). vec_len c.args.bytes.now + length l ≤ vec_capacity c.args.bytes.now) (sym (leads_are c.args.gap.now (lent_units c.args.units.now))) c.requires.room;
  all = refl;
}

pub returns : goal.returns
returns c =
    let units = c.args.units.now in
    let past : length units ≤ c.loop-unit.unit-index = search rules in
    let none = none_left c.loop-unit.lead.now c.args.gap.now units c.loop-unit.unit-index past in
    let front = c.loop-unit.bytes.items in
    let before = c.args.bytes.now.items in
    let inv = c.loop-unit.invariant in
    let all : front ++ [] ≡ before ++ behind_leads [] c.args.gap.now (lent_units units) = subst (λ (l : List ℕ). front ++ l ≡ before ++ behind_leads [] c.args.gap.now (lent_units units)) none inv.all in
    sym (append-nil front) ∙ all ∙ ap (λ (l : List ℕ). before ++ l) (leads_are c.args.gap.now (lent_units units))
