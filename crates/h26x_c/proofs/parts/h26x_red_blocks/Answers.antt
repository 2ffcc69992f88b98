use Rattle.std.proofs.Common.{◌<◌, ◌^◌, length, arith, rules}
use Rattle.h26x_rtp.specs.RedViews.{red_view}
use Rattle.h26x_c.proofs.PartLemmas.{blocks_within}
use Rattle.h26x_c.proofs.parts.h26x_red_blocks.Goals as goal

pub overflow_mul-left : goal.overflow_mul-left
overflow_mul-left c =
    let within = blocks_within c.args.payload.now (red_view c.in-Ok.it) c.in-Ok.ensures.spelled in
    let few : length c.args.payload.now < 2 ^ 64 = search rules in
    omega (arith, within, c.left-left.ensures, few)

pub overflow_add-left : goal.overflow_add-left
overflow_add-left c =
    let within = blocks_within c.args.payload.now (red_view c.in-Ok.it) c.in-Ok.ensures.spelled in
    let few : length c.args.payload.now < 2 ^ 64 = search rules in
    omega (arith, within, c.left-left.ensures, few)

pub tell_blocks-requires : goal.tell_blocks-requires
tell_blocks-requires c =
    let within = blocks_within c.args.payload.now (red_view c.in-Ok.it) c.in-Ok.ensures.spelled in
    let few : length c.args.payload.now < 2 ^ 64 = search rules in
    omega (arith, within, c.left-left.ensures, few)
