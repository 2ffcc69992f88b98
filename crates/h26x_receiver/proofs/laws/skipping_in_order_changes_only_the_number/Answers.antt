use Rattle.h26x_receiver.proofs.SkipLemmas.{skipped_in_order}
use Rattle.h26x_receiver.proofs.laws.skipping_in_order_changes_only_the_number.Goals as goal

pub returns : goal.returns
returns c = skipped_in_order
