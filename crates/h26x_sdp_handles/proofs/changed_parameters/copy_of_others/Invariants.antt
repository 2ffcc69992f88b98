use Rattle.std.proofs.Common.{◌≡◌, take, map}
use Rattle.h26x_fmtp.specs.ParametersViews.{other_view, others_view}
use Rattle.h26x_sdp_handles.proofs.changed_parameters.copy_of_others.Given as goal

abbrev pub invariant-loop-other : goal.invariant-loop-other
invariant-loop-other l = others_view l.copies ≡ map other_view (take l.other-index l.others)
