use Rattle.std.proofs.Common.{ℕ}
use Rattle.std.specs.Prelude.{IsTrue}
use Rattle.h26x_core.specs.Mark.{IsMark}
use Rattle.h26x_core.specs.ByteStream.{is_not_empty}
use Rattle.h26x_model.proofs.CodecLawLemmas.{all_weaker}
use Rattle.h26x_cut.specs.Cutting.{IsUnit}
use Rattle.h26x_cut.proofs.MarkLemmas.{mark_ends_code}
use Rattle.h26x_payload.proofs.UnitLemmas.{are_units}
use Rattle.h26x_payload.proofs.laws.units_are_whole.Goals as goal

pub returns : goal.returns
returns c = record {
  not_empty = λ f rule cuts payload.
      all_weaker IsUnit (λ unit. IsTrue (is_not_empty unit)) (λ unit whole. whole.not_empty) (f.units payload) (are_units f rule cuts payload);
  no_code = λ f rule cuts payload.
      all_weaker IsUnit (λ unit. (place : ℕ) → IsMark unit place → ⊥)
      (λ unit whole place mark. let (before, after, same, at) = mark_ends_code unit place mark in whole.no_code (before, after, same))
      (f.units payload) (are_units f rule cuts payload);
}
