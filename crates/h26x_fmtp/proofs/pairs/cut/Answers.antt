use Rattle.std.proofs.Common.{◌+◌}
use Rattle.std.proofs.lemmas.List.{take_rest}
use Rattle.h26x_fmtp.proofs.PartLemmas.{cut_at, cut_nowhere}
use Rattle.h26x_fmtp.proofs.pairs.cut.Goals as goal

pub returns-in-Some : goal.returns-in-Some
returns-in-Some c =
    let both = cut_at c.args.at c.args.text.now c.in-Some.place c.in-Some.ensures in
    record { before = both.0; behind = rw (take_rest c.args.text.now (c.in-Some.place + 1)) both.1 }

pub returns-in-None : goal.returns-in-None
returns-in-None c =
    let both = cut_nowhere c.args.at c.args.text.now c.in-None.ensures in
    record { before = both.0; behind = both.1 }
