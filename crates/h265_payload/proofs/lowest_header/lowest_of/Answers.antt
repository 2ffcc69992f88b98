use Rattle.std.proofs.Common.{rules, arith}
use Rattle.h265_payload.specs.Shown.{units_in}
use Rattle.h265_payload.specs.LowestHeader.{layer_of, temporal_of}
use Rattle.h265_payload.proofs.LowestLemmas.{lowest_most}
use Rattle.h265_payload.proofs.lowest_header.lowest_of.Goals as goal

-- a layer and a temporal id are at most those that the walk begins with
pub loop-unit-init : goal.loop-unit-init
loop-unit-init c =
    let layer = lowest_most 63 layer_of (units_in c.args.codec.has_donl c.args.bytes.now) in
    let temporal = lowest_most 7 temporal_of (units_in c.args.codec.has_donl c.args.bytes.now) in
    let first = c.of_none-lowest.ensures.layer in
    let first_temporal = c.of_none-lowest.ensures.temporal in
    record { forbidden = search rules; layer = omega (arith, layer, first); temporal = omega (arith, temporal, first_temporal); few = omega (arith, first); few_temporal = omega (arith, first_temporal) }
