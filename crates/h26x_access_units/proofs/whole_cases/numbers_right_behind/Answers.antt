use Rattle.std.proofs.Common.{false, true, [], ◌∷◌, Some, zero, refl, inl, inr, arith}
use Rattle.h26x_reorder.specs.Rtp.{rtp_body}
use Rattle.h26x_access_units.specs.WholeSent.{behind_one, behind_bare, as_told}
use Rattle.h26x_access_units.proofs.whole_cases.numbers_right_behind.Goals as goal

pub returns-clause-one : goal.returns-clause-one
returns-clause-one c f text = behind_one (65535, rtp_body 5 false (1 ∷ [])) [] text

pub returns-clause-bare : goal.returns-clause-bare
returns-clause-bare c f text = behind_bare (0, rtp_body 9 false []) (behind_one (65535, rtp_body 5 false (1 ∷ [])) [] text) refl

pub returns-clause-told : goal.returns-clause-told
returns-clause-told c f = as_told 7 [] (zero, omega arith, refl)

pub returns-clause-order : goal.returns-clause-order
returns-clause-order c f text = record {
  stamp = Some 5;
  right_behind = behind_one (7, rtp_body 5 false (1 ∷ [])) [] text;
  other = inl (λ bad. cc);
}

pub returns-clause-still : goal.returns-clause-still
returns-clause-still c f text begins = record {
  stamp = Some 5;
  right_behind = behind_one (7, rtp_body 5 true (1 ∷ [])) [] text;
  other = inr (begins, inl refl);
}
