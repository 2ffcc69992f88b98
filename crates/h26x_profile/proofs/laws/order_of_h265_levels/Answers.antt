use Rattle.std.proofs.Common.{refl}
use Rattle.std.specs.Ordering.{nat_cmp}
use Rattle.h26x_profile.specs.H265.{levels, ordinal, level_id}
use Rattle.h26x_profile.proofs.TableLemmas.{same_order}
use Rattle.h26x_profile.proofs.H265OrderLemmas.{every_level}
use Rattle.h26x_profile.proofs.laws.order_of_h265_levels.Goals as goal

pub returns-clause-order : goal.returns-clause-order
returns-clause-order c = same_order levels every_level _ (λ a b. nat_cmp (ordinal a) (ordinal b)) refl

pub returns-clause-ids : goal.returns-clause-ids
returns-clause-ids c = same_order levels every_level (λ a b. nat_cmp (ordinal a) (ordinal b)) (λ a b. nat_cmp (level_id a) (level_id b)) refl
