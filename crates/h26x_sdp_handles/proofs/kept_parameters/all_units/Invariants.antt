use Rattle.std.proofs.Common.{◌≡◌, ◌++◌, map, drop, length}
use Rattle.std.specs.List.{range_with_len}
use Rattle.h26x_fmtp.specs.Units.{sprop_units_at}
use Rattle.h26x_sdp_handles.specs.KeptUnits.{kept_view}
use Rattle.h26x_sdp_handles.proofs.kept_parameters.all_units.Given as goal

abbrev pub invariant-loop-parameter : goal.invariant-loop-parameter
invariant-loop-parameter g l = map kept_view l.kept.items ++ map (sprop_units_at g.P.CodecParameter.rows l.it) (map g.P.CodecParameter.place (drop l.parameter-index l.all))
    ≡ map (sprop_units_at g.P.CodecParameter.rows l.it) (range_with_len 0 (length g.P.CodecParameter.rows))
