use Rattle.std.proofs.Common.{◌≡◌, [], rules}
use Rattle.h266_payload.proofs.JudgedLemmas.{judged_whole}
use Rattle.h266_payload.proofs.aggregate.check_aggregate.Goals as goal

pub returns-clause-units : goal.returns-clause-units
returns-clause-units c =
    let none : c.loop-rest.rest.now ≡ [] = search rules in
    judged_whole c.args.bytes.now c.loop-rest.rest.now c.loop-rest.invariant.fault none
