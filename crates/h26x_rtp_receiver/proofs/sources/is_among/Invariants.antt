use Rattle.std.proofs.Common.{◌≡◌, drop}
use Rattle.std.specs.Prelude.{◌==◌}
use Rattle.std.specs.List.{list_any}
use Rattle.h26x_rtp_receiver.proofs.sources.is_among.Given as goal

-- none so far: it is as with the others
abbrev pub invariant-loop-it : goal.invariant-loop-it
invariant-loop-it l = list_any (λ n. n == l.number) (drop l.it-index l.numbers) ≡ list_any (λ n. n == l.number) l.numbers
