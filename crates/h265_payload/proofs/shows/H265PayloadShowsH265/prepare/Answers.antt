use Rattle.h265_payload.specs.H265.{read}
use Rattle.h265_payload.proofs.ShownLemmas.{brings_shown}
use Rattle.h265_payload.proofs.shows.H265PayloadShowsH265.prepare.Goals as goal

-- what is written of an aggregate is what is shown
pub returns-clause-units : goal.returns-clause-units
returns-clause-units c =
    brings_shown c.args.codec.has_donl c.args.packet.now c.args.parts (read c.args.codec.has_donl c.args.packet.now) c.requires.read.reading c.requires.shows
