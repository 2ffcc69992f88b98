use Rattle.std.proofs.Common.{None}
use Rattle.h26x_reorder.specs.Reordering.{in_order}
use Rattle.h26x_assembler.proofs.GapLemmas.{gaps_short}
use Rattle.h26x_assembler.proofs.TakenLemmas.{all_near}
use Rattle.h26x_assembler.proofs.laws.places_that_come_are_near.Goals as goal

pub returns : goal.returns
returns c = λ window places answers half near all. all_near None (in_order places) answers (gaps_short window places half near) all
