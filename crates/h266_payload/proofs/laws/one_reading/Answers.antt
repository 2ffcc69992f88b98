use Rattle.h266_payload.proofs.ReadingLemmas.{has_reading, only_reading}
use Rattle.h266_payload.proofs.laws.one_reading.Goals as goal

pub returns : goal.returns
returns c = λ has_donl. record { is = has_reading has_donl; only = only_reading has_donl }
