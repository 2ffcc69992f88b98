use Rattle.h26x_access_units.proofs.TakenLemmas.{told_was_taken, taken_is_told}
use Rattle.h26x_access_units.proofs.laws.numbers_taken_are_known.Goals as goal

pub returns-clause-only : goal.returns-clause-only
returns-clause-only c = told_was_taken

pub returns-clause-all : goal.returns-clause-all
returns-clause-all c = taken_is_told
