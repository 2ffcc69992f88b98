use Rattle.std.proofs.Common.{refl}
use Rattle.h266_payload.proofs.laws.cuts_by_its_rule.Goals as goal

pub returns : goal.returns
returns c = λ has_donl payload. refl
