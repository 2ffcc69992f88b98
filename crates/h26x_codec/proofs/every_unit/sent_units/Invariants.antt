use Rattle.std.proofs.Common.{◌≡◌, ◌++◌}
use Rattle.std.specs.Prelude.{filter}
use Rattle.h26x_packetizer.specs.Group.{lent_units}
use Rattle.h26x_codec.specs.SentUnits.{is_sent}
use Rattle.h26x_codec.specs.SentUnits as spec
use Rattle.h26x_codec.proofs.every_unit.sent_units.Given as goal

-- those found so far, and those that are left and sent
abbrev pub invariant-loop-unit : goal.invariant-loop-unit
invariant-loop-unit l = lent_units l.found.items ++ filter (is_sent l.delimiters l.codec) l.unit-iterator
    ≡ spec.sent_units l.delimiters l.codec l.access_unit
