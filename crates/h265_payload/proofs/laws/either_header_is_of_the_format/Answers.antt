use Rattle.std.proofs.Common.{refl}
use Rattle.h265_payload.proofs.SendingLemmas.{headed_format}
use Rattle.h265_payload.proofs.laws.either_header_is_of_the_format.Goals as goal

pub returns : goal.returns
returns c = record { facts = headed_format; taken = λ has_donl lowest_header w packets. refl }
