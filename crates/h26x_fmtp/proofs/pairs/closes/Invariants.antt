use Rattle.std.proofs.Common.{◌≡◌, drop}
use Rattle.h26x_fmtp.specs.Pairs.{closes, closes_from}
use Rattle.h26x_fmtp.proofs.pairs.closes.Given as goal

abbrev pub invariant-loop-byte : goal.invariant-loop-byte
invariant-loop-byte l = closes_from l.inside (drop l.byte-index l.text) ≡ closes l.text
