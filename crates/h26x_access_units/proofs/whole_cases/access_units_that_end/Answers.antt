use Rattle.std.proofs.Common.{false, true, [], ◌∷◌, zero, refl, arith}
use Rattle.h26x_reorder.specs.Rtp.{rtp_body}
use Rattle.h26x_access_units.specs.WholeSent.{by_marker, by_timestamp, by_content, slice_last}
use Rattle.h26x_access_units.proofs.whole_cases.access_units_that_end.Goals as goal

pub returns-clause-marker : goal.returns-clause-marker
returns-clause-marker c f = by_marker 8 (7, rtp_body 5 true (1 ∷ [])) [] [] refl refl

pub returns-clause-stamp : goal.returns-clause-stamp
returns-clause-stamp c f = by_timestamp (8, rtp_body 6 false []) ((7, rtp_body 5 false (1 ∷ [])) ∷ []) [] (zero, omega arith, refl) (λ bad. cc)

pub returns-clause-content : goal.returns-clause-content
returns-clause-content c f bears begins = by_content 8 ((7, rtp_body 5 false (1 ∷ [])) ∷ []) [] (record {
  next = (8, rtp_body 5 false (2 ∷ []));
  is_kept = (zero, omega arith, refl);
  number = refl;
  begins = begins;
  slice = slice_last (7, rtp_body 5 false (1 ∷ [])) [] refl bears;
})
