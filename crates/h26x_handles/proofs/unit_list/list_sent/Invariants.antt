use Rattle.std.proofs.Common.{◌≡◌, ◌++◌}
use Rattle.std.specs.Prelude.{filter}
use Rattle.h26x_codec.specs.SentUnits.{is_sent}
use Rattle.h26x_codec.specs.SentUnits as spec
use Rattle.h26x_handles.proofs.unit_list.list_sent.Given as goal

-- those found so far, and those that are left and sent
abbrev pub invariant-loop-unit : goal.invariant-loop-unit
invariant-loop-unit l = l.list ++ filter (is_sent l.delimiters l.codec) l.unit-iterator
    ≡ l.fn.list ++ spec.sent_units l.delimiters l.codec l.access_unit
