use Rattle.std.proofs.Common.{[], ◌∷◌}
use Rattle.h26x_access_units.specs.WholeSent.{nothing_written}
use Rattle.h26x_access_units.proofs.UnitsSentLemmas.{written_as_sent}
use Rattle.h26x_access_units.proofs.laws.packets_of_a_call_are_written_as_sent.Goals as goal

pub returns : goal.returns
returns c = λ s r call ok same it.
    written_as_sent s r call same (c.what_calls_send_is_carried.ensures s (nothing_written r) (call.call ∷ []) ok it.sender it.calls_are same it.carried)
