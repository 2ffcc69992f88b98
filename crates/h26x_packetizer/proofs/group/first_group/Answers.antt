use Rattle.std.proofs.Common.{rules, ◌≡◌, ◌≤◌, ◌-◌, ◌∷◌, length, take, drop, arith, ap, ◌∙◌, sym, subst, ℕ}
use Rattle.std.proofs.lemmas.List.{length-map}
use Rattle.h26x_model.specs.Send.Every.{groups_of, go_together}
use Rattle.h26x_packetizer.specs.Group.{lent_units, may_share, fitting}
use Rattle.h26x_packetizer.proofs.GroupLemmas.{first_alone, first_several, fitting_most}
use Rattle.h26x_packetizer.proofs.group.first_group.Goals as goal

pub returns-else-count-eq0-clause-within : goal.returns-else-count-eq0-clause-within
returns-else-count-eq0-clause-within g c =
    let most = fitting_most (may_share c.args.packing (g.C.EveryFormat.is_slice c.args.codec)) (g.C.EveryFormat.each c.args.codec) c.saturating_sub-room.result (lent_units c.args.units.now) in
    let count = c.fitting-count.ensures in
    let long : length (lent_units c.args.units.now) ≡ length c.args.units.now = length-map _ _ in
    omega (arith, most, count, long)

pub returns-then-count-eq0-clause-group : goal.returns-then-count-eq0-clause-group
returns-then-count-eq0-clause-group g c =
    let f = g.C.PayloadFormat.format c.args.codec in
    let share = may_share c.args.packing (g.C.EveryFormat.is_slice c.args.codec) in
    let start = g.C.EveryFormat.start c.args.codec in
    let each = g.C.EveryFormat.each c.args.codec in
    let units = lent_units c.args.units.now in
    let room : c.saturating_sub-room.result ≡ c.args.limit - start = search rules in
    let count = c.fitting-count.ensures ∙ ap (λ (r : ℕ). fitting share each r units) room in
    let zero : c.fitting-count.result ≡ 0 = search rules in
    let long : length units ≡ length c.args.units.now = length-map _ _ in
    let there = c.requires.some in
    first_alone f share start each c.args.limit units (g.met.C.EveryFormat.by_sum c.args.codec) c.requires.limit (omega (arith, long, there)) (sym count ∙ zero)

pub returns-else-count-eq0-clause-group : goal.returns-else-count-eq0-clause-group
returns-else-count-eq0-clause-group g c =
    let f = g.C.PayloadFormat.format c.args.codec in
    let share = may_share c.args.packing (g.C.EveryFormat.is_slice c.args.codec) in
    let start = g.C.EveryFormat.start c.args.codec in
    let each = g.C.EveryFormat.each c.args.codec in
    let units = lent_units c.args.units.now in
    let room : c.saturating_sub-room.result ≡ c.args.limit - start = search rules in
    let count = c.fitting-count.ensures ∙ ap (λ (r : ℕ). fitting share each r units) room in
    let some : 1 ≤ c.fitting-count.result = search rules in
    let two = g.met.C.EveryFormat.some_each c.args.codec in
    subst (λ (k : ℕ). groups_of (go_together f share c.args.limit) units ≡ take k units ∷ groups_of (go_together f share c.args.limit) (drop k units)) (sym count)
    (first_several f share start each c.args.limit units (g.met.C.EveryFormat.by_sum c.args.codec) c.requires.limit (omega (arith, two)) (subst (λ (k : ℕ). 1 ≤ k) count some))
