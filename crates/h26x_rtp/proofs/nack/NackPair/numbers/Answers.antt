use Rattle.std.proofs.Common.{◌∷◌, ap, ◌∙◌}
use Rattle.h26x_core.specs.Sequence.{next_sequence_number}
use Rattle.h26x_rtp.specs.Nack.{bit_numbers}
use Rattle.h26x_rtp.proofs.NackLemmas.{odd_bits}
use Rattle.h26x_rtp.proofs.nack.NackPair.numbers.Goals as goal

pub returns : goal.returns
returns c = let first = c.args.self.first in
    odd_bits 16 first c.from.result ∙ ap (λ bits. first ∷ bit_numbers 16 (next_sequence_number first) bits) c.from.ensures
