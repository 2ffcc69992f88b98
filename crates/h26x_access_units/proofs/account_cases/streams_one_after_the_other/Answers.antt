use Rattle.std.proofs.Common.{false, [], ◌∷◌, arith}
use Rattle.h26x_reorder.specs.Rtp.{rtp_body}
use Rattle.h26x_access_units.specs.Account.{no_stream, one_stream}
use Rattle.h26x_access_units.proofs.account_cases.streams_one_after_the_other.Goals as goal

pub returns-clause-two : goal.returns-clause-two
returns-clause-two c =
    let b = rtp_body 0 false [] in
    one_stream 1 ((5, b) ∷ []) ((6, b) ∷ (5, b) ∷ []) (one_stream 0 ((6, b) ∷ (5, b) ∷ []) [] no_stream (omega arith, tt)) tt

pub returns-clause-none : goal.returns-clause-none
returns-clause-none c = no_stream
