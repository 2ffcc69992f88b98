use Rattle.std.proofs.Common.{refl}
use Rattle.h26x_model.specs.Send.WaitingSets.{NoSet, OneSet}
use Rattle.h266_payload.proofs.cases.sets_that_wait.Goals as goal

pub returns-clause-three : goal.returns-clause-three
returns-clause-three c = record { vps = OneSet _ refl; sps = OneSet _ refl; pps = OneSet _ refl }

pub returns-clause-vps_alone : goal.returns-clause-vps_alone
returns-clause-vps_alone c = record { vps = OneSet _ refl; sps = NoSet; pps = NoSet }
