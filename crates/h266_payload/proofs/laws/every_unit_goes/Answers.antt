use Rattle.h266_payload.proofs.EveryLemmas.{packs_units, carries_by_header}
use Rattle.h266_payload.proofs.laws.every_unit_goes.Goals as goal

pub returns-clause-packs : goal.returns-clause-packs
returns-clause-packs c = packs_units

pub returns-clause-carries : goal.returns-clause-carries
returns-clause-carries c = carries_by_header
