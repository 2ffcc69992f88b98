use Rattle.h265_payload.proofs.RuleLemmas.{has_reading}
use Rattle.h265_payload.proofs.ReadingLemmas.{only_reading}
use Rattle.h265_payload.proofs.laws.one_reading.Goals as goal

pub returns : goal.returns
returns c = λ has_donl. record { is = has_reading has_donl; only = only_reading has_donl }
