use Rattle.std.proofs.Common.{rules, ◌≡◌, ◌+◌, ◌-◌, ◌∙◌, drop, length, arith}
use Rattle.std.proofs.lemmas.List.{take_all, length-drop}
use Rattle.h26x_cut.proofs.PlaceLemmas.{begun, next_found}
use Rattle.h26x_cut.proofs.slices.next_unit.Goals as goal

pub loop-rest-init : goal.loop-rest-init
loop-rest-init c =
    let payload = c.args.payload.now in
    let from = c.args.from in
    let behind = c.in_ok-behind.behind.now in
    let place = c.in-Some.place in
    let ((inside, _, range, _), _) = c.in_ok-behind.ensures.lookup in
    let rest : behind ≡ drop from payload = range ∙ take_all (length payload - from) (drop from payload) (simp length-drop (omega arith)) in
    let all = take_all (length behind - (place + 3)) (drop (place + 3) behind) (simp length-drop (omega arith)) in
    let first = begun c.args.rule payload behind from place rest inside c.in-Some.ensures in
    rw all (record { units = first.units; within = first.within; begins = first.begins; end = first.end })

pub returns-then-not-is_empty-clause-some : goal.returns-then-not-is_empty-clause-some
returns-then-not-is_empty-clause-some c =
    let so_far = c.loop-rest.invariant in
    rw c.without_code_zeros-unit.ensures (next_found c.args.rule c.args.payload.now c.loop-rest.rest.now c.args.from c.in-Some-first_code.place so_far.units so_far.begins so_far.within so_far.end
    (rw c.in-Some-first_code.is at c.first_code-in-loop-rest.ensures) (rw (← c.without_code_zeros-unit.ensures) (search rules)))
