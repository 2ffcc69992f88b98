use Rattle.std.proofs.Common.{◌≡◌, drop, false}
use Rattle.h26x_fmtp.specs.Written.{is_one_part}
use Rattle.h26x_sdp_handles.proofs.changed_parameters.is_one_part.Given as goal

abbrev pub invariant-loop-byte : goal.invariant-loop-byte
invariant-loop-byte l = is_one_part l.inside (drop l.byte-index l.text) ≡ is_one_part false l.text
