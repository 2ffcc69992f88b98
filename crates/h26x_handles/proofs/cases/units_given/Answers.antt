use Rattle.std.proofs.Common.{refl, Some, None, [], ◌∷◌}
use Rattle.h26x_access_units.specs.Reception.{none}
use Rattle.h26x_handles.proofs.UnitCaseLemmas.{either_none}
use Rattle.h26x_handles.proofs.cases.units_given.Goals as goal

pub returns-clause-room : goal.returns-clause-room
returns-clause-room c = λ now codec r other. record {
  unit = Some (record other { bytes = 1 ∷ 2 ∷ [] });
  is_next = (refl, refl);
  stands = refl;
  put = refl;
  answered = refl;
}

pub returns-clause-fits : goal.returns-clause-fits
returns-clause-fits c = λ now codec r other. record {
  unit = Some (record other { bytes = 1 ∷ 2 ∷ [] });
  is_next = (refl, refl);
  stands = refl;
  put = refl;
  answered = refl;
}

pub returns-clause-no_room : goal.returns-clause-no_room
returns-clause-no_room c = λ now codec r other. record {
  unit = Some (record other { bytes = 1 ∷ 2 ∷ [] });
  is_next = (refl, refl);
  stands = refl;
  put = refl;
  answered = refl;
}

pub returns-clause-none : goal.returns-clause-none
returns-clause-none c = λ now codec has_donl is_avc config. record {
  unit = None;
  is_next = record {
    drained = _;
    taken = none;
    until = λ ended. either_none _ _ _ refl refl;
    unit_is = refl;
    stands = refl;
  };
  stands = refl;
  put = refl;
  answered = refl;
}
