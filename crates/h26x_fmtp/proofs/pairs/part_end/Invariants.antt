use Rattle.std.proofs.Common.{◌≡◌, drop, take}
use Rattle.h26x_fmtp.specs.Pairs.{parts, parts_from}
use Rattle.h26x_fmtp.proofs.PartLemmas.{with_front}
use Rattle.h26x_fmtp.proofs.pairs.part_end.Given as goal

abbrev pub invariant-loop-place : goal.invariant-loop-place
invariant-loop-place l = parts l.text ≡ with_front (take l.place l.text) (parts_from l.inside (drop l.place l.text))
