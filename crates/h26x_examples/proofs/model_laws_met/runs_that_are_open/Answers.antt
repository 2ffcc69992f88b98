use Rattle.std.proofs.Common.{◌∙◌, sym}
use Rattle.h26x_examples.proofs.model_laws_met.runs_that_are_open.Goals as goal

pub returns-clause-computed : goal.returns-clause-computed
returns-clause-computed c = c.one_open_run.ensures.computed

pub returns-clause-one : goal.returns-clause-one
returns-clause-one c = λ readings a b first second. sym (c.one_open_run.ensures.only readings a first) ∙ c.one_open_run.ensures.only readings b second
