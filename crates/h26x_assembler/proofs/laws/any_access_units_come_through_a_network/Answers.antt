use Rattle.std.proofs.Common.{refl}
use Rattle.h26x_assembler.proofs.AnyLemmas.{any_brought_by}
use Rattle.h26x_assembler.proofs.laws.any_access_units_come_through_a_network.Goals as goal

pub returns : goal.returns
returns c = λ window most limit w some half ok start packets answers each.
    any_brought_by window most limit w packets answers _ c.what_came_is_written.ensures some half ok start (record { each = each; stands = refl })
