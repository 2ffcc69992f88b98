use Rattle.std.proofs.Common.{rules, ◌≡◌, ◌∙◌, ◌++◌, refl, ap}
use Rattle.h26x_core.specs.Word.{long_word}
use Rattle.h26x_cut.proofs.LengthLemmas.{still_there, too_long, too_short, found, left_behind}
use Rattle.h26x_cut.proofs.lengths.next_avc_unit.Goals as goal

-- src/lengths.rt:44:13
pub returns-then-len-units-clause-none : goal.returns-then-len-units-clause-none
returns-then-len-units-clause-none c is empty unit rest it =
    let (fewer, there) = still_there c.args.text.now c.loop-len.rest.now c.args.from c.loop-len.invariant empty unit rest it in
    too_long c.in-Some.len c.in-Some.units.now c.in-Some.ensures.fits c.if-len-units.true fewer unit rest (rw (← c.in-Some.ensures.some) there)

-- src/lengths.rt:48:13
pub returns-then-len-gt0-clause-some : goal.returns-then-len-gt0-clause-some
returns-then-len-gt0-clause-some c =
    found c.args.text.now c.loop-len.rest.now c.in-Some.units.now c.args.from c.in-Some.len c.loop-len.invariant c.in-Some.ensures.some c.in-Some.ensures.fits
    (search rules) (search rules)

-- src/lengths.rt:42:5
pub loop-len-preserved : goal.loop-len-preserved
loop-len-preserved c =
    let none : c.in-Some.len ≡ 0 = search rules in
    left_behind c.args.text.now c.loop-len.rest.now c.in-Some.units.now c.args.from c.loop-len.invariant
    (c.in-Some.ensures.some ∙ ap (λ n. long_word n ++ c.in-Some.units.now) none)

-- src/lengths.rt:36:1
pub returns-clause-none : goal.returns-clause-none
returns-clause-none c is empty unit rest it =
    let (fewer, there) = still_there c.args.text.now c.loop-len.rest.now c.args.from c.loop-len.invariant empty unit rest it in
    too_short c.loop-len.rest.now (c.in_default.ensures.none refl) fewer unit rest there
