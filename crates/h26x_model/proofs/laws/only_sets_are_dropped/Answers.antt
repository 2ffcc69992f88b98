use Rattle.h26x_model.specs.Send.Group.{split}
use Rattle.h26x_model.proofs.GroupLemmas.{split_is}
use Rattle.h26x_model.proofs.SentLemmas.{never_dropped, last_stays}
use Rattle.h26x_model.proofs.laws.only_sets_are_dropped.Goals as goal

pub returns : goal.returns
returns c = record { room = never_dropped; last = λ f roomy entries. last_stays f roomy entries (split f entries).groups (split f entries).rest (split_is f entries) }
