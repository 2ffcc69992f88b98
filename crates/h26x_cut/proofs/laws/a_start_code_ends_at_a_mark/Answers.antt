use Rattle.h26x_cut.proofs.MarkLemmas.{code_has_mark, mark_ends_code}
use Rattle.h26x_cut.proofs.laws.a_start_code_ends_at_a_mark.Goals as goal

pub returns : goal.returns
returns c = record { mark = mark_ends_code; code = code_has_mark }
