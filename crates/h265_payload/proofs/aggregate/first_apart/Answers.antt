use Rattle.std.proofs.Common.{◌-◌, arith, drop, length}
use Rattle.std.proofs.lemmas.List.{length-drop, take_all}
use Rattle.std.proofs.lemmas.Bool.Decides.{nat_tests}
use Rattle.h265_payload.proofs.ApartLemmas.{apart_sliced}
use Rattle.h265_payload.proofs.aggregate.first_apart.Goals as goal

pub returns-in-Ok-clause-first : goal.returns-in-Ok-clause-first
returns-in-Ok-clause-first c =
    let all = take_all (length c.args.bytes.now - 1) (drop 1 c.args.bytes.now) (simp length-drop (omega arith)) in
    apart_sliced c.args.bytes.now _ c.in-Ok.unit.now c.in-Ok.behind.now (grind (arith, nat_tests, c.if-bytes-lt3.false)) all c.in-Ok.ensures.parts c.in-Ok.ensures.size
