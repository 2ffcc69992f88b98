use Rattle.std.proofs.Common.{◌∙◌, ap, refl}
use Rattle.h26x_cut.specs.Cutting.{cut_segments, units_of_segments}
use Rattle.h26x_cut.proofs.CuttingLemmas as lemmas
use Rattle.h26x_cut.proofs.laws.one_cutting.Goals as goal

pub returns : goal.returns
returns c = record {
  is = lemmas.has_cutting;
  only = lemmas.one_cutting;
  units = λ rule payload. (cut_segments rule payload, lemmas.has_cutting rule payload, refl);
  only_units = λ rule payload units (segments, cut, same). same ∙ ap units_of_segments (lemmas.cutting_is rule payload segments cut);
}
