use Rattle.std.proofs.Common.{false, [], ◌∷◌, zero, refl, arith}
use Rattle.h26x_reorder.specs.Rtp.{rtp_body}
use Rattle.h26x_access_units.specs.WholeSent.{slice_last, slice_earlier}
use Rattle.h26x_access_units.proofs.whole_cases.slices_before_a_number.Goals as goal

pub returns-clause-last : goal.returns-clause-last
returns-clause-last c f bears = slice_last (65535, rtp_body 5 false (1 ∷ [])) [] refl bears

pub returns-clause-earlier : goal.returns-clause-earlier
returns-clause-earlier c f bears = slice_earlier (32775, rtp_body 6 false (2 ∷ [])) (slice_last (7, rtp_body 5 false (1 ∷ [])) [] refl bears) (omega arith)

pub returns-clause-next : goal.returns-clause-next
returns-clause-next c f bears begins = record {
  next = (8, rtp_body 5 false (2 ∷ []));
  is_kept = (zero, omega arith, refl);
  number = refl;
  begins = begins;
  slice = slice_last (7, rtp_body 5 false (1 ∷ [])) [] refl bears;
}
