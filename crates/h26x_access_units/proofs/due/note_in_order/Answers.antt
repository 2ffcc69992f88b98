use Rattle.std.proofs.Common.{◌∙◌, ap, false}
use Rattle.h26x_access_units.specs.declared.counts.Counts.{Counts}
use Rattle.h26x_access_units.specs.Counts.{counted_framing}
use Rattle.h26x_access_units.proofs.due.note_in_order.Goals as goal

pub returns-clause-counts : goal.returns-clause-counts
returns-clause-counts c = λ expected. c.frame.ensures ∙ ap (λ (n : Counts). counted_framing n false false) (c.note.ensures expected)
