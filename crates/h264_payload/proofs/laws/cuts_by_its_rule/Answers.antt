use Rattle.std.proofs.Common.{refl}
use Rattle.h264_payload.proofs.laws.cuts_by_its_rule.Goals as goal

pub returns : goal.returns
returns c = λ payload. refl
