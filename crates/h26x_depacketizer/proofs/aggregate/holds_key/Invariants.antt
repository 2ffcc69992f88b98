use Rattle.std.proofs.Common.{◌≡◌, length, ℕ, List}
use Rattle.std.specs.Prelude.{nat_le, take_while}
use Rattle.std.specs.List.{list_any}
use Rattle.h26x_core.specs.Pieces.{pieces_of}
use Rattle.h26x_depacketizer.proofs.aggregate.holds_key.Given as goal

-- what is left holds a key unit where all does
abbrev pub invariant-loop-rest : goal.invariant-loop-rest
invariant-loop-rest g l = list_any (g.C.PayloadFormat.format l.codec).is_key (take_while (λ (unit : List ℕ). nat_le (g.C.PayloadFormat.format l.codec).header_len (length unit)) (pieces_of l.rest).whole)
    ≡ list_any (g.C.PayloadFormat.format l.codec).is_key (take_while (λ (unit : List ℕ). nat_le (g.C.PayloadFormat.format l.codec).header_len (length unit)) (pieces_of l.bytes).whole)

abbrev pub decreases-loop-rest : goal.decreases-loop-rest
decreases-loop-rest g l = length l.rest
