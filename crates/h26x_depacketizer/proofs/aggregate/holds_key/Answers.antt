use Rattle.std.proofs.Common.{rules, ◌≡◌, true, false, length, ℕ, List}
use Rattle.std.specs.Prelude.{nat_le}
use Rattle.std.proofs.lemmas.Bool.Decides.{nat_tests}
use Rattle.h26x_core.specs.Pieces.{pieces_of}
use Rattle.h26x_depacketizer.proofs.AggregateLemmas.{passed_over, found_first}
use Rattle.h26x_depacketizer.proofs.aggregate.holds_key.Goals as goal

-- a whole unit that is no key unit is passed over
pub loop-rest-preserved : goal.loop-rest-preserved
loop-rest-preserved g c =
    let long : nat_le (g.C.PayloadFormat.format c.args.codec).header_len (length c.in-Ok.unit.now) ≡ true = search (rules, nat_tests) in
    let other : (g.C.PayloadFormat.format c.args.codec).is_key c.in-Ok.unit.now ≡ false = search rules in
    passed_over (g.C.PayloadFormat.format c.args.codec).is_key (λ (unit : List ℕ). nat_le (g.C.PayloadFormat.format c.args.codec).header_len (length unit)) c.in-Ok.unit.now
    (pieces_of c.loop-rest.rest.now) (pieces_of c.in-Ok.behind.now) _ c.in-Ok.ensures.whole long other c.loop-rest.invariant

-- a whole key unit is found
pub returns-then-is_key : goal.returns-then-is_key
returns-then-is_key g c =
    let long : nat_le (g.C.PayloadFormat.format c.args.codec).header_len (length c.in-Ok.unit.now) ≡ true = search (rules, nat_tests) in
    let this : (g.C.PayloadFormat.format c.args.codec).is_key c.in-Ok.unit.now ≡ true = search rules in
    found_first (g.C.PayloadFormat.format c.args.codec).is_key (λ (unit : List ℕ). nat_le (g.C.PayloadFormat.format c.args.codec).header_len (length unit)) c.in-Ok.unit.now
    (pieces_of c.loop-rest.rest.now) (pieces_of c.in-Ok.behind.now) _ c.in-Ok.ensures.whole long this c.loop-rest.invariant
