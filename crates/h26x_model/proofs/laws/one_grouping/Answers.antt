use Rattle.h26x_model.proofs.GroupLemmas.{split_is, only_groups}
use Rattle.h26x_model.proofs.laws.one_grouping.Goals as goal

pub returns : goal.returns
returns c = record { is = split_is; only = only_groups }
