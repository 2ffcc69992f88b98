use Rattle.std.proofs.Common.{◌∙◌, ap, sym}
use Rattle.h26x_access_units.specs.Reception.{without_bare}
use Rattle.h26x_access_units.proofs.ReceptionLemmas.{bare_goes, bare_stays}
use Rattle.h26x_access_units.proofs.receiver.AccessUnitReceiver.drop_bare.Goals as goal

pub loop-self-preserved : goal.loop-self-preserved
loop-self-preserved g c = ap without_bare c.pass_bare.ensures ∙ bare_goes _ (sym c.has_bare.ensures ∙ c.loop-self-test.true) ∙ c.loop-self.invariant

pub returns-clause-after : goal.returns-clause-after
returns-clause-after g c = sym (bare_stays _ (sym c.has_bare.ensures ∙ c.loop-self-test.false)) ∙ c.loop-self.invariant
